use Rattle.drawing.proofs.Staying.{names_stay}
use Rattle.drawing.proofs.laws.names_stay.Goals as goal

pub returns : goal.returns
returns c = names_stay
