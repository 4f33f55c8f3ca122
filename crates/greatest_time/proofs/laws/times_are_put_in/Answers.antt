use Rattle.greatest_time.proofs.InTime.{has_time, later_time, own_time}
use Rattle.greatest_time.proofs.laws.times_are_put_in.Goals as goal

pub returns-clause-time : goal.returns-clause-time
returns-clause-time c = has_time

pub returns-clause-later : goal.returns-clause-later
returns-clause-later c = later_time

pub returns-clause-own : goal.returns-clause-own
returns-clause-own c = own_time
