use Rattle.std.proofs.Common.{refl}
use Rattle.drawing.specs.declared.shape.Shape.TheVariants.{Frame}
use Rattle.drawing.proofs.Wording.{adds_no_area, adds_none}
use Rattle.drawing.proofs.picture.put_frame.Goals as goal

pub returns-clause-words : goal.returns-clause-words
returns-clause-words c = adds_none c.push.result c.args.picture.now c.push.new.self (Frame c.args.corner c.args.width c.args.height c.args.color) refl c.push.ensures.ok

pub returns-clause-areas : goal.returns-clause-areas
returns-clause-areas c = adds_no_area c.push.result c.args.picture.now c.push.new.self (Frame c.args.corner c.args.width c.args.height c.args.color) refl c.push.ensures.ok
