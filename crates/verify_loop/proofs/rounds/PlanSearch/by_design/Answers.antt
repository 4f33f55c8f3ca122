use Rattle.std.proofs.Common.{◌≡◌, sym, subst}
use Rattle.interlocking.specs.declared.railway.Interlocking.{Interlocking}
use Rattle.live_clause_spec.specs.Variables.{live_commands}
use Rattle.plan_encoding.specs.Bases.{speaks_of}
use Rattle.verify_loop.proofs.Spoken.{spoken}
use Rattle.verify_loop.proofs.rounds.PlanSearch.by_design.Goals as goal

pub invariant_of-result : goal.invariant_of-result
invariant_of-result c =
    let q = c.args.self.now in
    let m = q.aim in
    let j = q.interlocking.now in
    let commands = c.contention.result.pairs.now.commands in
    let same : j ≡ c.contention.result.interlocking.now = sym c.contention.ensures.interlocking in
    record { speaks = subst (λ (z : Interlocking). commands ≡ live_commands (speaks_of m.base z.design.station z.routes) z.design.station z.routes) same (spoken m.base j q.numbering.now q.numbers j.table commands c.contention.ensures.commands) }
