use Rattle.std.proofs.Common.{◌≡◌, ◌++◌, drop}
use Rattle.rail_outside.specs.Lines.{lines_of}
use Rattle.named_plans.specs.Text.{step_lines}
use Rattle.named_plans.proofs.writing.put_steps.Given as goal

-- with the lines of the steps from here on they are all lines
abbrev pub invariant-loop-index : goal.invariant-loop-index
invariant-loop-index l = lines_of l.lines.items ++ step_lines l.design.station (drop l.index l.steps) ≡ lines_of l.initial.lines.items ++ step_lines l.design.station l.steps
