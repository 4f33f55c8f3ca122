use Rattle.std.proofs.Common.{◌≡◌, drop, find}
use Rattle.rail_plan.specs.Executable.{keeps_from}
use Rattle.plan_faults.proofs.keepers.keeper_in.Given as goal

abbrev pub invariant-loop-other : goal.invariant-loop-other
invariant-loop-other l = let test = keeps_from l.interlocking.design.station l.interlocking.routes l.plan.steps l.command l.section in
    find test (drop l.other-index l.step) ≡ find test l.step
