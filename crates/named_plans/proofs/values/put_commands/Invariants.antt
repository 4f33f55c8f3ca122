use Rattle.std.proofs.Common.{◌≡◌, ◌++◌, map, filter, take}
use Rattle.serde_json.specs.View.{view}
use Rattle.rail_spec.specs.Plans.{is_train}
use Rattle.named_plans.specs.Text.{command_value}
use Rattle.named_plans.proofs.values.put_commands.Given as goal

-- the train's commands so far have been appended
abbrev pub invariant-loop-command : goal.invariant-loop-command
invariant-loop-command l = map view l.values.items ≡ map view l.initial.values.items ++ map (command_value l.design.station) (filter (λ c. is_train c.train l.train) (take l.command-index l.step))
