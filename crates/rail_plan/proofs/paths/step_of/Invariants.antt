use Rattle.std.proofs.Common.{◌≡◌, ◌+◌, drop}
use Rattle.rail_spec.specs.Plans.{step_of}
use Rattle.rail_plan.proofs.paths.step_of.Given as goal

-- none of the steps so far has it
abbrev pub invariant-loop-step : goal.invariant-loop-step
invariant-loop-step l = record {
  counted : l.number ≡ l.step-index + 1;
  left : step_of l.step-items l.command ≡ l.step-index + step_of (drop l.step-index l.step-items) l.command;
}
