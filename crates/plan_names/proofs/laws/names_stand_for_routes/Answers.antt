use Rattle.plan_names.proofs.Found.{stand_for, stood_for}
use Rattle.plan_names.proofs.laws.names_stand_for_routes.Goals as goal

pub returns : goal.returns
returns c = λ d adm names n. (stand_for d adm names n, stood_for d adm names n)
