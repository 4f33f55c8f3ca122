use Rattle.std.proofs.Common.{◌≡◌, ◌++◌, drop, filter}
use Rattle.rail_spec.specs.Plans.{commands}
use Rattle.plan_faults.specs.Kept.{is_given_between}
use Rattle.plan_faults.proofs.between.given_between.Given as goal

abbrev pub invariant-loop-step : goal.invariant-loop-step
invariant-loop-step l = l.given.items ++ filter (is_given_between l.plan.steps l.first l.last) (commands (drop l.step-index l.step-items))
    ≡ filter (is_given_between l.plan.steps l.first l.last) (commands l.step-items)
