-- Commands whose trains and routes are there.
use Rattle.std.specs.Prelude.{List, All}
use Rattle.rail_base.specs.declared.station.Station.{Station}
use Rattle.rail_base.specs.declared.route.Route.{Route}
use Rattle.rail_base.specs.declared.plan.Command.{Command}
use Rattle.rail_base.specs.Routes.{IsRoute}
use Rattle.rail_base.specs.Stations.{IsTrain}

-- the command's route is there
abbrev pub HasRoute : List Route → Command → Type 0
HasRoute routes c = IsRoute routes c.route

-- the routes of all commands of a step are
abbrev pub HaveRoutes : List Route → List Command → Type 0
HaveRoutes routes step = All (HasRoute routes) step

-- so are their trains
abbrev pub HaveTrains : Station → List Command → Type 0
HaveTrains d step = All (λ c. IsTrain d c.train) step
