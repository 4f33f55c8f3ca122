use Rattle.std.proofs.Common.{ap, subst, sym, ◌∙◌, IsUtf8}
use Rattle.plan_text.proofs.Names.{name_is_text, there_unless}
use Rattle.named_plans.proofs.values.name_of.Goals as goal

pub unwrap-requires : goal.unwrap-requires
unwrap-requires c =
    let text = name_is_text c.args.design.now.station c.args.design.now.admitted c.args.train c.requires in
    there_unless c.from_utf8.result _ _ c.from_utf8.ensures.cases (λ e no_text. no_text.0 (subst IsUtf8 (sym (c.as_bytes.ensures ∙ ap (λ t. t.name) c.train.ensures)) text))
