use Rattle.std.proofs.Common.{◌≡◌, map, option_map, Some, None, ap, sym, ◌∙◌}
use Rattle.serde_json.specs.View.{view}
use Rattle.rail_plan.specs.Text.{json_of}
use Rattle.rail_plan.proofs.Json.{json_found}
use Rattle.plan_names.specs.Shown.{shown}
use Rattle.named_plans.specs.Numbered.{all_shown, plan_numbered}
use Rattle.named_plans.proofs.Empty.{nothing_read}
use Rattle.named_plans.proofs.Shallow.{plan_shallow}
use Rattle.named_plans.proofs.numbering.text_of.Goals as goal

pub returns-in-Some : goal.returns-in-Some
returns-in-Some c =
    let d = c.args.interlocking.now.design.station in
    let all : c.as_slice.result.now ≡ all_shown d = c.as_slice.ensures ∙ c.in_ok-shown.ensures ∙ ap (λ rs. map (shown d rs) rs) c.args.interlocking.now.table in
    let is : plan_numbered (all_shown d) (view c.args.value.now) ≡ Some (view c.in-Some.plan) = ap (λ ns. plan_numbered ns (view c.args.value.now)) (sym all) ∙ sym c.in_ok-plan.ensures ∙ ap (option_map view) c.in-Some.is in
    json_found c.in_ok-text-in-Some.text.items (view c.in-Some.plan) c.in_ok-text-in-Some.ensures.utf8 (c.in_ok-text-in-Some.ensures.reads_back (plan_shallow (all_shown d) (view c.args.value.now) (view c.in-Some.plan) is)) ∙ sym is

pub returns : goal.returns
returns c =
    let d = c.args.interlocking.now.design.station in
    let all : c.as_slice.result.now ≡ all_shown d = c.as_slice.ensures ∙ c.in_ok-shown.ensures ∙ ap (λ rs. map (shown d rs) rs) c.args.interlocking.now.table in
    let is : plan_numbered (all_shown d) (view c.args.value.now) ≡ None = ap (λ ns. plan_numbered ns (view c.args.value.now)) (sym all) ∙ sym c.in_ok-plan.ensures ∙ ap (option_map view) c.in-None.is in
    ap json_of c.new.ensures.items ∙ nothing_read ∙ sym is
