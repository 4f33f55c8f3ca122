use Rattle.std.proofs.Common.{length, ap, arith}
use Rattle.sat_clause.proofs.Laid.{count-store}
use Rattle.sat_clause.proofs.arena.Arena.count.Goals as goal

pub returns : goal.returns
returns c =
    let n = count-store c.self.inside.lits.items c.self.inside.ends.items c.self.inside.marks.items c.self.invariant in
    let v = ap length c.self.view_is in
    let e = c.len.ensures in
    omega arith
