use Rattle.rail_laws.proofs.Lively.{no_deadlock}
use Rattle.rail_laws.proofs.laws.every_command_is_granted.Goals as goal

pub returns : goal.returns
returns c = no_deadlock
