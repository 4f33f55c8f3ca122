use Rattle.std.proofs.Common.{◌≡◌, map}
use Rattle.serde_json.specs.View.{view}
use Rattle.plan_text.proofs.Trains.{given_first}
use Rattle.named_plans.specs.Text.{command_value}
use Rattle.named_plans.proofs.values.step_value.Given as goal

-- the commands of the trains so far have been appended
abbrev pub invariant-loop-index : goal.invariant-loop-index
invariant-loop-index l = map view l.values.items ≡ map (command_value l.design.station) (given_first l.step l.index)
