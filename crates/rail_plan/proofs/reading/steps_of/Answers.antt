use Rattle.std.proofs.Common.{map, sym, ◌∙◌}
use Rattle.serde_json.specs.View.{view}
use Rattle.rail_plan.specs.Text.{of_all, step_in}
use Rattle.rail_plan.proofs.Shapes.{of_all_is}
use Rattle.rail_plan.proofs.Parsed.{steps_spelled, some_there, none_there}
use Rattle.rail_plan.proofs.reading.steps_of.Goals as goal

pub returns-then-are_steps : goal.returns-then-are_steps
returns-then-are_steps c =
    let values = c.in_ok-steps.steps.now in
    let parsed = steps_spelled (view c.args.value.now) (view c.in_ok-steps_at.field-0.now) (map view values) c.in_ok-steps_at.ensures c.in_ok-steps.ensures in
    let there = some_there (of_all step_in (map view values)) (of_all_is step_in view values ∙ sym c.are_steps.ensures ∙ c.if-are_steps.true) in
    (there.0, parsed ∙ there.1, there.1)

pub returns-else-are_steps : goal.returns-else-are_steps
returns-else-are_steps c =
    let values = c.in_ok-steps.steps.now in
    let parsed = steps_spelled (view c.args.value.now) (view c.in_ok-steps_at.field-0.now) (map view values) c.in_ok-steps_at.ensures c.in_ok-steps.ensures in
    parsed ∙ none_there (of_all step_in (map view values)) (of_all_is step_in view values ∙ sym c.are_steps.ensures ∙ c.if-are_steps.false)
