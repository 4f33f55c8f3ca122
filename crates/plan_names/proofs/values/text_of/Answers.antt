use Rattle.std.proofs.Common.{◌≡◌, Result, Ok, Err, IsUtf8, refl}
use Rattle.plan_names.proofs.Turns.{there_unless}
use Rattle.plan_names.proofs.values.text_of.Goals as goal

pub unwrap-requires : goal.unwrap-requires
unwrap-requires c = there_unless c.from_utf8.result _ _ c.from_utf8.ensures.cases (λ e no_text. no_text.0 c.requires)
