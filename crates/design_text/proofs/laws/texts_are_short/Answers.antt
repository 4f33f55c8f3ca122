use Rattle.design_text.proofs.Lengths.{texts_are_short}
use Rattle.design_text.proofs.laws.texts_are_short.Goals as goal

pub returns : goal.returns
returns c = texts_are_short
