use Rattle.run_drawing.proofs.Kept.{endings_so}
use Rattle.run_drawing.proofs.laws.endings_are_so.Goals as goal

pub returns : goal.returns
returns c = endings_so
