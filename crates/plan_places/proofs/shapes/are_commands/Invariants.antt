use Rattle.std.proofs.Common.{◌≡◌, drop, is_some}
use Rattle.std.specs.List.{list_all}
use Rattle.serde_json.specs.View.{view}
use Rattle.rail_plan.specs.Text.{command_of}
use Rattle.plan_places.proofs.shapes.are_commands.Given as goal

-- those so far are
abbrev pub invariant-loop-value : goal.invariant-loop-value
invariant-loop-value l = list_all (λ v. is_some (command_of (view v))) (drop l.value-index l.values) ≡ list_all (λ v. is_some (command_of (view v))) l.values
