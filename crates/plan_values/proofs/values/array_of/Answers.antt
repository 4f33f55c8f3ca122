use Rattle.std.proofs.Common.{◌≡◌, List, Some, map, sym, ap, ◌∙◌}
use Rattle.serde_json.specs.Data.{array}
use Rattle.serde_json.specs.View.{view, items_view}
use Rattle.serde_json.specs.declared.value.Value.{Value}
use Rattle.serde_json.proofs.Views.{view-Array}
use Rattle.rail_plan.specs.Text.{array_of}
use Rattle.rail_plan.proofs.Shapes.{listed_values}
use Rattle.plan_values.proofs.values.array_of.Goals as goal

pub returns-in-Array : goal.returns-in-Array
returns-in-Array c =
    let values = c.in-Array.values in
    let seen : view c.args.value.now ≡ array (items_view values.items) = ap view c.in-Array.is ∙ view-Array values in
    ap (λ (vs : List Value). Some (map view vs)) c.as_slice.ensures.value ∙ sym (ap Some (listed_values values.items)) ∙ sym (ap array_of seen)
