use Rattle.design_cli.proofs.Comparing.{plans_refuse_as_simulate}
use Rattle.design_cli.proofs.laws.plans_refuse_as_simulate.Goals as goal

pub returns : goal.returns
returns c = plans_refuse_as_simulate
