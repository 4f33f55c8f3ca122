use Rattle.greatest_time.proofs.Alike.{routes_alike}
use Rattle.greatest_time.proofs.laws.all_else_stays.Goals as goal

pub returns-clause-routes : goal.returns-clause-routes
returns-clause-routes c = λ d w ms. routes_alike d _
