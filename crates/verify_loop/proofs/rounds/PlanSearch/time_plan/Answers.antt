use Rattle.std.proofs.Common.{◌≡◌, ◌-◌, refl, sym, ◌∙◌, arith}
use Rattle.plan_exclusion.proofs.Failing.{fails_at}
use Rattle.rail_base.specs.declared.history.Verdict.{Verdict}
use Rattle.rail_base.specs.declared.history.Verdict.TheVariants.{Met, Failed, Undecided}
use Rattle.rail_base.proofs.Admitting.{admitted}
use Rattle.rail_spec.specs.Histories.{verdict_of}
use Rattle.rail_spec.specs.Requirements.{cost}
use Rattle.rail_spec.specs.Track.{routes_of}
use Rattle.rail_laws.proofs.Verdicts.{verdict}
use Rattle.verify_loop.specs.Asking.{quest}
use Rattle.verify_loop.proofs.Timing.{decided_early, undecided_late, by_horizon, met_feasible, met_tick, failed_tick, over_routes}
use Rattle.verify_loop.proofs.Within.{within_so, log_told}
use Rattle.verify_loop.proofs.rounds.PlanSearch.time_plan.Goals as goal

pub after_failure-requires-clause-fails : goal.after_failure-requires-clause-fails
after_failure-requires-clause-fails c =
    let d = c.args.self.now.interlocking.now.design.station in
    let left = c.args.self.now.budgets.ticks - c.args.search.sum in
    let v : Verdict = Failed c.in-Ok-Failed.history c.in-Ok-Failed.tick c.in-Ok-Failed.violation in
    fails_at d c.args.plan.steps c.in-Ok-Failed.history c.in-Ok-Failed.tick c.in-Ok-Failed.violation left
    (sym (over_routes d c.args.self.now.interlocking.now.routes c.args.plan.steps left c.in-Ok-Failed.field-0 v c.args.self.now.interlocking.now.table c.in-Ok-Failed.ensures.value c.in-Ok-Failed.field-0-is))

pub after_failure-requires-clause-tick : goal.after_failure-requires-clause-tick
after_failure-requires-clause-tick c =
    let d = c.args.self.now.interlocking.now.design.station in
    let left = c.args.self.now.budgets.ticks - c.args.search.sum in
    let v : Verdict = Failed c.in-Ok-Failed.history c.in-Ok-Failed.tick c.in-Ok-Failed.violation in
    let same : v ≡ verdict_of d (routes_of d) c.args.plan.steps left = over_routes d c.args.self.now.interlocking.now.routes c.args.plan.steps left c.in-Ok-Failed.field-0 v c.args.self.now.interlocking.now.table c.in-Ok-Failed.ensures.value c.in-Ok-Failed.field-0-is in
    let early = decided_early d c.args.plan.steps left v same (λ e. cc) in
    let t = failed_tick d c.args.plan.steps c.in-Ok-Failed.history c.in-Ok-Failed.tick c.in-Ok-Failed.violation (sym early.1) in
    omega (arith, t)

pub after_failure-requires-clause-at_least_one : goal.after_failure-requires-clause-at_least_one
after_failure-requires-clause-at_least_one c =
    let d = c.args.self.now.interlocking.now.design.station in
    let left = c.args.self.now.budgets.ticks - c.args.search.sum in
    let v : Verdict = Failed c.in-Ok-Failed.history c.in-Ok-Failed.tick c.in-Ok-Failed.violation in
    let same : v ≡ verdict_of d (routes_of d) c.args.plan.steps left = over_routes d c.args.self.now.interlocking.now.routes c.args.plan.steps left c.in-Ok-Failed.field-0 v c.args.self.now.interlocking.now.table c.in-Ok-Failed.ensures.value c.in-Ok-Failed.field-0-is in
    let early = decided_early d c.args.plan.steps left v same (λ e. cc) in
    let t = failed_tick d c.args.plan.steps c.in-Ok-Failed.history c.in-Ok-Failed.tick c.in-Ok-Failed.violation (sym early.1) in
    let first = (verdict d (routes_of d) c.args.plan.steps (admitted d c.args.self.now.interlocking.now.design.admitted)).first in
    omega (arith, t, first)

pub after_failure-requires-clause-left : goal.after_failure-requires-clause-left
after_failure-requires-clause-left c =
    let d = c.args.self.now.interlocking.now.design.station in
    let left = c.args.self.now.budgets.ticks - c.args.search.sum in
    let v : Verdict = Failed c.in-Ok-Failed.history c.in-Ok-Failed.tick c.in-Ok-Failed.violation in
    let same : v ≡ verdict_of d (routes_of d) c.args.plan.steps left = over_routes d c.args.self.now.interlocking.now.routes c.args.plan.steps left c.in-Ok-Failed.field-0 v c.args.self.now.interlocking.now.table c.in-Ok-Failed.ensures.value c.in-Ok-Failed.field-0-is in
    let early = decided_early d c.args.plan.steps left v same (λ e. cc) in
    let t = failed_tick d c.args.plan.steps c.in-Ok-Failed.history c.in-Ok-Failed.tick c.in-Ok-Failed.violation (sym early.1) in
    let cheap = early.0 in
    let spent = c.requires.at.3.search.left in
    omega (arith, t, cheap, spent)

pub returns-in-Ok-Met-clause-stops : goal.returns-in-Ok-Met-clause-stops
returns-in-Ok-Met-clause-stops c =
    let q = c.args.self.now in
    let d = q.interlocking.now.design.station in
    let left = q.budgets.ticks - c.args.search.sum in
    let v : Verdict = Met c.in-Ok-Met.history c.in-Ok-Met.tick in
    let same : v ≡ verdict_of d (routes_of d) c.args.plan.steps left = over_routes d q.interlocking.now.routes c.args.plan.steps left c.in-Ok-Met.field-0 v q.interlocking.now.table c.in-Ok-Met.ensures.value c.in-Ok-Met.field-0-is in
    let early = decided_early d c.args.plan.steps left v same (λ e. cc) in
    let good = admitted d q.interlocking.now.design.admitted in
    let t = met_tick d c.args.plan.steps c.in-Ok-Met.history c.in-Ok-Met.tick (sym early.1) in
    let spent = c.requires.at.3.search.left in
    let cheap = early.0 in (
      c.requires.at,
      met_feasible d c.args.plan.steps q.numbering.now.steps c.in-Ok-Met.history c.in-Ok-Met.tick good c.requires.at.3.found.runnable (sym early.1),
      early.1 ∙ sym (by_horizon d c.args.plan.steps good),
      omega (arith, t),
      omega (arith, t, cheap, spent),
    )

pub returns-in-Ok-Undecided-clause-stops : goal.returns-in-Ok-Undecided-clause-stops
returns-in-Ok-Undecided-clause-stops c =
    let q = c.args.self.now in
    let r = c.requires.at in
    let m = quest q r.0 r.1 in
    let d = q.interlocking.now.design.station in
    let left = q.budgets.ticks - c.args.search.sum in
    let same : Undecided ≡ verdict_of d (routes_of d) c.args.plan.steps left = over_routes d q.interlocking.now.routes c.args.plan.steps left c.in-Ok-Undecided.field-0 Undecided q.interlocking.now.table c.in-Ok-Undecided.ensures.value c.in-Ok-Undecided.field-0-is in
    let late = undecided_late d c.args.plan.steps left Undecided same refl in
    let n = q.numbering.now.steps in
    let b = q.budgets in
    let one = c.args.search.solver in
    let s = r.3.search in
    let spent = s.left in (
      tt,
      (
        r.0,
        r.1,
        r.2,
        (
          s.lines,
          s.rs,
          log_told m d n b one.arena one.recorder one.learnt.items one.vars one.derives c.args.search.failed.items c.args.search.sum c.args.search.steps s,
          within_so m d n b one.arena one.recorder one.learnt.items one.vars one.derives c.args.search.failed.items c.args.search.sum c.args.search.steps s,
          s.plans,
          s.cost,
          r.3.found,
          omega (arith, late, spent),
        ),
      ),
    )
