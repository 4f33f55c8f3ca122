use Rattle.std.proofs.Common.{◌≡◌, drop, find}
use Rattle.rail_spec.specs.Plans.{commands}
use Rattle.rail_plan.specs.Executable.{keeps_from}
use Rattle.plan_faults.proofs.keepers.keeper_among.Given as goal

abbrev pub invariant-loop-step : goal.invariant-loop-step
invariant-loop-step l = let test = keeps_from l.interlocking.design.station l.interlocking.routes l.plan.steps l.command l.section in
    find test (commands (drop l.step-index l.steps)) ≡ find test (commands l.steps)
