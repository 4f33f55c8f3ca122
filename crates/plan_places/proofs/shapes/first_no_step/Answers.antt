use Rattle.std.proofs.Common.{not, is_some, sym, ◌∙◌}
use Rattle.serde_json.specs.View.{view}
use Rattle.rail_plan.specs.Text.{step_in}
use Rattle.plan_values.proofs.Found.{position_map}
use Rattle.plan_places.proofs.shapes.first_no_step.Goals as goal

pub returns-clause-place : goal.returns-clause-place
returns-clause-place c = c.place_of_no_step.ensures.place ∙ sym (position_map (λ d. not (is_some (step_in d))) view c.args.values.now)
