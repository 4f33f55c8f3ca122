-- Where a route starts and ends, in words.
use Rattle.std.specs.Prelude.{ℕ, List, ◌++◌, codes}
use Rattle.rail_base.specs.declared.route.Finish.{Finish}
use Rattle.rail_base.specs.declared.route.Finish.TheVariants as finish
use Rattle.rail_base.specs.declared.route.Route.{Route}
use Rattle.rail_base.specs.declared.route.RouteNo.{RouteNo}
use Rattle.rail_base.specs.declared.route.Start.{Start}
use Rattle.rail_base.specs.declared.route.Start.TheVariants as start
use Rattle.rail_base.specs.declared.station.Station.{Station}
use Rattle.rail_base.specs.Names.{node_name, signal_name}
use Rattle.rail_base.specs.Routes.{route_at}

-- `starts at signal s1`
abbrev pub start_text : Station → Start → List ℕ
start_text d (start.Boundary n) = codes "starts at boundary " ++ node_name d n
start_text d (start.Signal s) = codes "starts at signal " ++ signal_name d s

-- `ends at signal s1`
abbrev pub finish_text : Station → Finish → List ℕ
finish_text d (finish.Exit n) = codes "leaves at boundary " ++ node_name d n
finish_text d (finish.Signal s) = codes "ends at signal " ++ signal_name d s
finish_text d (finish.DeadEnd n) = codes "ends where the track does, at node " ++ node_name d n

module _ (d : Station) (routes : List Route) where
  -- where the route of a number starts, and where it ends
  abbrev pub starts_text : RouteNo → List ℕ
  starts_text r = start_text d (route_at routes r).start

  abbrev pub finishes_text : RouteNo → List ℕ
  finishes_text r = finish_text d (route_at routes r).finish
