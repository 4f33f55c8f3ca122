use Rattle.std.proofs.Common.{option_and_then, option_map, ap, sym, ◌∙◌}
use Rattle.serde_json.specs.View.{view}
use Rattle.rail_plan.specs.Reading.{plan_of_text}
use Rattle.rail_plan.specs.Text.{json_of, text_steps}
use Rattle.rail_spec.specs.Track.{routes_of}
use Rattle.named_plans.specs.Numbered.{all_shown, plan_numbered}
use Rattle.named_plans.proofs.Empty.{nothing_read}
use Rattle.named_plans.proofs.numbering.numbered_text.Goals as goal

pub returns-in-None : goal.returns-in-None
returns-in-None c =
    let d = c.args.interlocking.now.design.station in
    ap (λ o. plan_of_text d (routes_of d) (option_and_then text_steps o)) (ap json_of c.new.ensures.items ∙ nothing_read)
    ∙ ap (λ o. plan_of_text d (routes_of d) (option_and_then text_steps (option_and_then (plan_numbered (all_shown d)) o))) (ap (option_map view) (sym c.in-None.is) ∙ c.in_ok-value.ensures)
