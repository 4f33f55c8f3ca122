use Rattle.rail_laws.proofs.RouteLaws.{route_is, is_route}
use Rattle.rail_laws.proofs.laws.routes_are_elementary.Goals as goal

pub returns : goal.returns
returns c = λ d adm r. (route_is d adm r, is_route d adm r)
