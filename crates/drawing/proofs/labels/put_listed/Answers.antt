use Rattle.std.proofs.Common.{◌∙◌, ap, refl}
use Rattle.drawing.specs.declared.shape.Anchor.TheVariants.{Start}
use Rattle.drawing.specs.declared.shape.Shape.TheVariants.{Words}
use Rattle.drawing.specs.Drawing.{words_in}
use Rattle.drawing.proofs.Placing.{other_keeps}
use Rattle.drawing.proofs.Wording.{one_word}
use Rattle.drawing.proofs.labels.put_listed.Goals as goal

pub returns-clause-words : goal.returns-clause-words
returns-clause-words c = ap words_in c.in_ok-push.ensures.ok ∙ one_word c.args.picture.now (Words c.args.spot.listed Start c.args.spot.color c.args.text) c.args.text refl

pub returns-clause-apart : goal.returns-clause-apart
returns-clause-apart c = other_keeps c.args.picture.now c.push.new.self (Words c.args.spot.listed Start c.args.spot.color c.args.text) c.in_ok-push.ensures.ok refl
