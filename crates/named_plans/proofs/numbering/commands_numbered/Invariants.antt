use Rattle.std.proofs.Common.{map}
use Rattle.serde_json.specs.View.{view}
use Rattle.named_plans.specs.Numbered.{command_numbered}
use Rattle.named_plans.proofs.Gathered.{Gathers}
use Rattle.named_plans.proofs.numbering.commands_numbered.Given as goal

-- what they are read as so far
abbrev pub invariant-loop-value : goal.invariant-loop-value
invariant-loop-value l = Gathers (command_numbered l.shown) view l.values (map view l.commands.items) l.value-index
