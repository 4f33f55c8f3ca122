use Rattle.std.proofs.Common.{refl, ◌∙◌}
use Rattle.cone_words.proofs.Joining.{then_as}
use Rattle.cone_words.proofs.cones.end_text.Goals as goal

pub returns : goal.returns
returns c = then_as _ _ _ _ _ (c.in_ok-text.ensures.items ∙ c.train_name.ensures) c.in_ok-extend_from_slice.ensures.items refl
