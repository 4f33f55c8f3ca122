use Rattle.std.proofs.Common.{map}
use Rattle.serde_json.specs.View.{view}
use Rattle.named_plans.specs.Numbered.{step_numbered}
use Rattle.named_plans.proofs.Gathered.{Gathers}
use Rattle.named_plans.proofs.numbering.steps_numbered.Given as goal

-- what they are read as so far
abbrev pub invariant-loop-value : goal.invariant-loop-value
invariant-loop-value l = Gathers (step_numbered l.shown) view l.values (map view l.steps.items) l.value-index
