use Rattle.std.proofs.Common.{Some, ap, refl}
use Rattle.drawing.specs.declared.shape.Shape.TheVariants.{Words}
use Rattle.drawing.proofs.Wording.{adds_no_area, adds_word}
use Rattle.drawing.proofs.picture.put_words.Goals as goal

pub returns-clause-words : goal.returns-clause-words
returns-clause-words c = adds_word c.push.result c.args.picture.now c.push.new.self (Words c.args.place c.args.anchor c.args.color c.from_vec.result) c.args.text.items (ap Some c.from_vec.ensures) c.push.ensures.ok

pub returns-clause-areas : goal.returns-clause-areas
returns-clause-areas c = adds_no_area c.push.result c.args.picture.now c.push.new.self (Words c.args.place c.args.anchor c.args.color c.from_vec.result) refl c.push.ensures.ok
