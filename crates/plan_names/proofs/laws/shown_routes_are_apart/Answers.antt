use Rattle.plan_names.proofs.Apart.{shown_apart}
use Rattle.plan_names.proofs.laws.shown_routes_are_apart.Goals as goal

pub returns : goal.returns
returns c = λ d admitted r q m n same. shown_apart d admitted r q m n same
