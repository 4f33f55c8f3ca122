use Rattle.std.proofs.Common.{length, ap, arith}
use Rattle.command_set.proofs.Standing.{few_commands}
use Rattle.command_set.proofs.set.CommandSet.count.Goals as goal

pub returns-clause-bound : goal.returns-clause-bound
returns-clause-bound c =
    let few = few_commands c.self.inside.routes c.self.inside.rows.items c.self.invariant.good in
    let e = ap length c.self.invariant.listed in
    let n = c.len.ensures in
    omega arith
