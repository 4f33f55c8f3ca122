use Rattle.serde_json.specs.View.{view}
use Rattle.rail_plan.specs.Text.{string_of}
use Rattle.named_plans.proofs.Gathered.{Gathers}
use Rattle.named_plans.proofs.numbering.names_of.Given as goal

-- what they are read as so far
abbrev pub invariant-loop-value : goal.invariant-loop-value
invariant-loop-value l = Gathers (string_of) view l.values (l.names) l.value-index
