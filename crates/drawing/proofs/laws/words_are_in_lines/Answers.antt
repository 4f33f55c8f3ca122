use Rattle.drawing.proofs.Showing.{words_are_in_lines}
use Rattle.drawing.proofs.laws.words_are_in_lines.Goals as goal

pub returns : goal.returns
returns c = words_are_in_lines
