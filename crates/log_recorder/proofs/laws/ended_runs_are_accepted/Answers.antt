use Rattle.log_recorder.proofs.Accepted.{accepted}
use Rattle.log_recorder.proofs.laws.ended_runs_are_accepted.Goals as goal

pub returns : goal.returns
returns c = accepted c.lines_read_back.ensures
