use Rattle.rail_laws.proofs.Verdicts.{met_exactly, verdict}
use Rattle.rail_laws.proofs.laws.plans_are_met_where_they_do_not_fail.Goals as goal

pub returns-clause-met : goal.returns-clause-met
returns-clause-met c = met_exactly

pub returns-clause-verdict : goal.returns-clause-verdict
returns-clause-verdict c = verdict
