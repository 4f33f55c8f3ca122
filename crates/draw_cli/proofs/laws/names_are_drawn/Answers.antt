use Rattle.draw_cli.proofs.Comparing.{names_are_drawn}
use Rattle.draw_cli.proofs.laws.names_are_drawn.Goals as goal

pub returns : goal.returns
returns c = names_are_drawn
