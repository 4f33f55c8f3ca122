use Rattle.std.proofs.Common.{◌≡◌, ◌≤◌, IsUtf8, List, length, map, sym, ap, subst, ◌∙◌, arith}
use Rattle.std.proofs.lemmas.List.{take_all}
use Rattle.serde_json.specs.Data.{string, array}
use Rattle.serde_json.specs.View.{items_of}
use Rattle.serde_json.proofs.Views.{view-Array}
use Rattle.rail_base.proofs.Contained.{in_at}
use Rattle.plan_names.proofs.values.names_value.Goals as goal

pub text_of-requires : goal.text_of-requires
text_of-requires c = subst IsUtf8 (sym (c.as_bytes.ensures ∙ c.name-item.is)) (c.requires _ (in_at c.args.names.now c.loop-name.name-index _ c.loop-name-test.true))

pub returns : goal.returns
returns c =
    let over = c.loop-name-test.false in
    view-Array c.loop-name.values
    ∙ ap (λ ds. array (items_of ds)) (c.loop-name.invariant ∙ ap (map string) (take_all c.loop-name.name-index c.args.names.now (omega arith)))
