use Rattle.std.proofs.Common.{◌≡◌, ℕ, ◌+◌, List, OnOk, not, is_some, map, position, sym, ap, subst, ◌∙◌}
use Rattle.serde_json.specs.Data.{Data, null}
use Rattle.serde_json.specs.View.{view}
use Rattle.rail_base.specs.Numbering.{entry}
use Rattle.rail_plan.specs.Text.{array_of, step_in}
use Rattle.rail_plan.proofs.Seen.{entry_mapped}
use Rattle.rail_text.specs.Added.{AddsLines}
use Rattle.plan_places.specs.Shapes.{commands_lines, step_lines}
use Rattle.plan_places.proofs.shapes.push_steps.Goals as goal

pub returns-in-Some : goal.returns-in-Some
returns-in-Some c =
    let values = c.args.values.now in
    let i = c.in-Some.index in
    let here : entry null (map view values) (i + 1) ≡ view c.index-values-index.result = entry_mapped view null values i c.index-values-index.result c.in-Some.ensures.inside c.index-values-index.is in
    let same : commands_lines (i + 1) (array_of (view c.index-values-index.result)) ≡ step_lines (map view values) (position (λ d. not (is_some (step_in d))) (map view values)) =
    ap (λ (v : Data). commands_lines (i + 1) (array_of v)) (sym here) ∙ ap (step_lines (map view values)) c.in-Some.ensures.place in
    subst (λ (more : List (List ℕ)). OnOk c.push_step.result (AddsLines c.args.lines.now c.push_step.new.lines more)) same c.push_step.ensures
