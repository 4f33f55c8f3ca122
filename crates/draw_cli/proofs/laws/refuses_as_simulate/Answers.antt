use Rattle.draw_cli.proofs.Comparing.{refuses_as_simulate}
use Rattle.draw_cli.proofs.laws.refuses_as_simulate.Goals as goal

pub returns : goal.returns
returns c = refuses_as_simulate
