-- What a cone of the design says of one train.
use Rattle.std.specs.Prelude.{◌≤◌, List, All}
use Rattle.rail_base.specs.declared.station.Station.{Station}
use Rattle.rail_base.specs.declared.route.Route.{Route}
use Rattle.rail_base.specs.Routes.{IsRoute}
use Rattle.rail_base.specs.Stations.{IsTrain}
use Rattle.cone_spec.specs.declared.ConeTrain.{ConeTrain}
use Rattle.cone_spec.specs.declared.Cone.{Cone}
use Rattle.cone_run.specs.Runs.{last_tick}

-- a horizon within the run, a train and routes that are there
pub record IsEntry (d : Station) (routes : List Route) (k : Cone) (c : ConeTrain) : Type 0 where
  pub until : c.horizon ≤ last_tick k
  pub train : IsTrain d c.train
  pub there : All (IsRoute routes) c.path
