use Rattle.rail_laws.proofs.Arrivals.{done_in_time, late_only}
use Rattle.rail_laws.proofs.laws.plans_are_done_in_time.Goals as goal

pub returns-clause-done : goal.returns-clause-done
returns-clause-done c = done_in_time

pub returns-clause-late : goal.returns-clause-late
returns-clause-late c = late_only
