use Rattle.normal_clause_spec.proofs.Walks.{leads_by_steps}
use Rattle.normal_clause_spec.proofs.laws.chains_lead_where_steps_do.Goals as goal

pub returns : goal.returns
returns c = leads_by_steps
