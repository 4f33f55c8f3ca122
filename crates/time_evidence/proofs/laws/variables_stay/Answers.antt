use Rattle.time_evidence.proofs.Bases.{changed_variables, variables_of_times}
use Rattle.time_evidence.proofs.laws.variables_stay.Goals as goal

pub returns-clause-changed : goal.returns-clause-changed
returns-clause-changed c = changed_variables

pub returns-clause-times : goal.returns-clause-times
returns-clause-times c = variables_of_times
