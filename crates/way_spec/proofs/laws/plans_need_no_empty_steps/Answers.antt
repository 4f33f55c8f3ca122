use Rattle.way_spec.proofs.Most.{short_plan, none_of_any, has_most_routes}
use Rattle.way_spec.proofs.laws.plans_need_no_empty_steps.Goals as goal

pub returns-clause-short : goal.returns-clause-short
returns-clause-short c = short_plan

pub returns-clause-any : goal.returns-clause-any
returns-clause-any c = none_of_any

pub returns-clause-routes : goal.returns-clause-routes
returns-clause-routes c = has_most_routes
