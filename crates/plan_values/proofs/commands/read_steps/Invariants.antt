use Rattle.std.proofs.Common.{◌≡◌, ◌++◌, drop, map}
use Rattle.serde_json.specs.View.{view}
use Rattle.rail_plan.specs.Reading.{read_steps, train_names}
use Rattle.plan_values.proofs.commands.read_steps.Given as goal

-- what was read, and what the rest gives
abbrev pub invariant-loop-value : goal.invariant-loop-value
invariant-loop-value l = l.steps ++ read_steps (train_names l.design.station) l.many (map view (drop l.value-index l.values))
    ≡ read_steps (train_names l.design.station) l.many (map view l.values)
