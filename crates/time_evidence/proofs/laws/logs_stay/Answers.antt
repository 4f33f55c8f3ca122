use Rattle.time_evidence.proofs.Logs.{lines_stay, run_logs_stay, ended_logs_stay}
use Rattle.time_evidence.proofs.laws.logs_stay.Goals as goal

pub returns-clause-lines : goal.returns-clause-lines
returns-clause-lines c = lines_stay

pub returns-clause-run : goal.returns-clause-run
returns-clause-run c = run_logs_stay

pub returns-clause-ended : goal.returns-clause-ended
returns-clause-ended c = ended_logs_stay
