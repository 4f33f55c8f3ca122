use Rattle.std.proofs.Common.{sym, subst, arith}
use Rattle.rail_base.proofs.Admitting.{admitted}
use Rattle.sat_clause.specs.declared.lit.Lit.{Lit}
use Rattle.sat_clause.specs.Clauses.{opposite}
use Rattle.sat_core.specs.Units.{HasUnit}
use Rattle.verify_loop.specs.Asking.{quest}
use Rattle.verify_loop.proofs.Known.{denials, denied_is_so}
use Rattle.verify_loop.proofs.Refining.{known_so}
use Rattle.verify_loop.proofs.rounds.PlanSearch.refine.Goals as goal
use Rattle.verify_loop.proofs.rounds.PlanSearch.refine.Goals.{else-search-most-via-then-search-most+else-is_refuted, else-search-most-via-else-search-most}

pub longer-requires-clause-known : goal.longer-requires-clause-known
longer-requires-clause-known g c =
    let one = c.args.search.solver in
    let r = c.requires in
    let m = quest c.args.self.now r.0 r.1 in
    known_so m c.args.self.now.interlocking.now.design.station c.args.self.now.numbering.now.steps c.args.self.now.budgets c.args.self.now.at_least_one one.arena one.recorder one.learnt.items one.vars one.derives c.args.search.failed.items c.args.search.sum c.args.search.steps r.3
    (admitted c.args.self.now.interlocking.now.design.station c.args.self.now.interlocking.now.design.admitted) denials (denied_is_so m)
    (subst (λ (z : Lit). HasUnit one.arena (opposite z)) c.by_step.ensures (c.is_refuted.ensures.yes c.if-is_refuted.true))

pub solve_round-requires-clause-unsaid : goal.solve_round-requires-clause-unsaid
solve_round-requires-clause-unsaid g c = elim c.else-search-most.branch [
  | else-search-most-via-then-search-most+else-is_refuted w ↦ (λ less unit. w.is_refuted.ensures.no w.if-is_refuted.false (subst (λ (z : Lit). HasUnit c.args.search.solver.arena (opposite z)) (sym w.by_step.ensures) unit))
  | else-search-most-via-else-search-most w ↦ (λ less. (let most = w.if-search-most.false in let same = c.steps-most.ensures in absurd (omega arith)))
]
