use Rattle.time_evidence.proofs.Bases.{changed_plain, changed_normal, plain_of_times, normal_of_times}
use Rattle.time_evidence.proofs.laws.clauses_stay.Goals as goal

pub returns-clause-changed_plain : goal.returns-clause-changed_plain
returns-clause-changed_plain c = changed_plain

pub returns-clause-changed_normal : goal.returns-clause-changed_normal
returns-clause-changed_normal c = changed_normal

pub returns-clause-plain : goal.returns-clause-plain
returns-clause-plain c = plain_of_times

pub returns-clause-normal : goal.returns-clause-normal
returns-clause-normal c = normal_of_times
