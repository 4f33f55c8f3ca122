use Rattle.std.proofs.Common.{ap, ◌∙◌}
use Rattle.std.proofs.lemmas.Result.{IfOk-weaker}
use Rattle.serde_json.specs.Written.{compact_text, has_float}
use Rattle.named_plans.proofs.Floats.{no_float}
use Rattle.named_plans.proofs.writing.step_text.Goals as goal

pub returns : goal.returns
returns c =
    let seen = c.in_ok-value.ensures in
    IfOk-weaker c.to_vec.result _ _ (λ text same. same (ap has_float seen ∙ no_float c.args.design.now.station c.args.step.now) ∙ ap compact_text seen) c.to_vec.ensures.text
