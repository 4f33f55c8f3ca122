use Rattle.log_recorder.proofs.Denying.{denied}
use Rattle.log_recorder.proofs.laws.denials_are_so.Goals as goal

pub returns : goal.returns
returns c = denied
