use Rattle.std.proofs.Common.{◌≡◌, map, take}
use Rattle.serde_json.specs.View.{view}
use Rattle.plan_text.specs.Text.{step_value}
use Rattle.plan_text.proofs.values.steps_values.Given as goal

-- the steps so far have been appended
abbrev pub invariant-loop-step : goal.invariant-loop-step
invariant-loop-step l = map view l.values.items ≡ map (step_value l.design.station) (take l.step-index l.steps)
