use Rattle.design_cli.proofs.ThereAndBack.{goes_there_and_back}
use Rattle.design_cli.proofs.laws.goes_there_and_back.Goals as goal

pub returns : goal.returns
returns c = goes_there_and_back
