-- Routes whose numbers name something and whose offsets are in range.
use Rattle.std.specs.Prelude.{◌≡◌, ℕ, ◌≤◌, ◌<◌, ◌^◌, false, List, All, map, flat_map, length, nat_abs, pos, sum_by}
use Rattle.std.specs.Prelude.{◌++◌, Vec}
use Rattle.rail_base.specs.declared.station.Station.{Station}
use Rattle.rail_base.specs.declared.station.EdgeNo.{EdgeNo}
use Rattle.rail_base.specs.declared.station.SectionNo.{SectionNo}
use Rattle.rail_base.specs.declared.station.TrainNo.{TrainNo}
use Rattle.rail_base.specs.declared.route.Route.{Route}
use Rattle.rail_base.specs.declared.route.RouteNo.{RouteNo}
use Rattle.rail_base.specs.declared.plan.Command.{Command}
use Rattle.rail_base.specs.Stations.{IsEdge, IsTrain, edge_of, length_of, per_tick_speed, trains}
use Rattle.rail_base.specs.Numbering.{after_first}
use Rattle.rail_base.specs.Members.{In}
use Rattle.rail_base.specs.Routes.{IsRoute, route_at, length_mm, release_offset, held_sections, goes_over}
use Rattle.rail_spec.specs.Track.{routes_of, edge_ends}
use Rattle.rail_spec.specs.Plans.{path}
use Rattle.rail_spec.specs.Motion.{SpanSeen}
use Rattle.rail_spec.specs.Dispatches.{stretches, stretch}
use Rattle.std.specs.declared.alloc.Global.{Global}
use Rattle.rail_motion.specs.declared.Span.{Span}
use Rattle.rail_motion.specs.Track.{stretches_of}

-- the edge is there, has a length, and has a limit of 1 to 100,000 mm per tick
pub record HasLimit (d : Station) (e : EdgeNo) : Type 0 where
  pub there : IsEdge d e
  pub long : 1 ≤ length_of d e
  pub moves : 1 ≤ per_tick_speed d (edge_of d e).speed_mm_s
  pub slow : per_tick_speed d (edge_of d e).speed_mm_s ≤ 100000

-- a route is as long as its edges, its nodes are at their ends, its nodes and release offsets are within it, and it
-- goes over none of the sections of its overlap, which are few
pub record IsLaid (d : Station) (r : Route) : Type 0 where
  pub edges : All (HasLimit d) r.edges
  pub whole : sum_by (length_of d) r.edges ≡ length_mm r
  pub nodes : All (λ p. nat_abs p.1 ≤ length_mm r) r.nodes
  pub ends : map (λ n. n.1) (after_first r.nodes) ≡ map (λ e. pos e.1) (edge_ends d 0 r.edges)
  pub releases : (z : SectionNo) → release_offset r z ≤ length_mm r
  pub beside : (z : SectionNo) → In z (held_sections r) → goes_over r z ≡ false
  pub few_held : length r.overlaps ≤ 16

-- so is every route of the table, and has an edge
pub record AreLaid (d : Station) (routes : List Route) : Type 0 where
  pub each : (r : RouteNo) → IsLaid d (route_at routes r)
  pub some_edge : (r : RouteNo) → IsRoute routes r → 1 ≤ length (route_at routes r).edges

-- the command names a train and a route
abbrev pub IsCommand : Station → List Route → Command → Type 0
IsCommand d routes c = IsTrain d c.train × IsRoute routes c.route

-- the routes of these numbers in a row
abbrev pub routes_at : List Route → List RouteNo → List Route
routes_at routes path = map (route_at routes) path

-- their edges
abbrev pub edges_of : List Route → List RouteNo → List EdgeNo
edges_of routes path = flat_map (λ r. r.edges) (routes_at routes path)

-- how many sections are held behind their ends
abbrev pub held_count : List Route → List RouteNo → ℕ
held_count routes path = length (flat_map (λ r. r.overlaps) (routes_at routes path))

-- how long they are together
abbrev pub path_length : List Route → List RouteNo → ℕ
path_length routes path = sum_by length_mm (routes_at routes path)

-- what a run takes for granted of a path: its routes are there, and it is short enough
pub record IsPathInRange (routes : List Route) (path : List RouteNo) : Type 0 where
  pub named : All (IsRoute routes) path
  pub below_2_47 : path_length routes path < 2 ^ 47

-- these are the paths of all trains, in file order
pub record ArePaths (d : Station) (routes : List Route) (path : TrainNo → List RouteNo)
    (paths : List (List RouteNo)) : Type 0 where
  pub all : paths ≡ map path (trains d)
  pub path_a_train : length paths ≡ length d.trains
  pub range : All (IsPathInRange routes) paths

-- the path of each train is in range
abbrev pub PathsAreInRange : Station → List (List Command) → Type 0
PathsAreInRange d plan = (t : TrainNo) → IsPathInRange (routes_of d) (path plan t)

-- the path of each train in a plan
abbrev pub all_paths : Station → List Route → List (List Command) → List (List RouteNo)
all_paths d routes plan = map (path plan) (trains d)

-- the stretches of the track of these routes
abbrev pub stretches_along : Station → List Route → List RouteNo → List SpanSeen
stretches_along d routes path = stretches d (routes_at routes path)

-- the stretches of edges, from a place on
abbrev pub stretches_from : Station → ℕ → List EdgeNo → List SpanSeen
stretches_from d begin edges = map (stretch d) (edge_ends d begin edges)

-- these stretches are added
abbrev pub AddsSpans : Vec Span Global → Vec Span Global → List SpanSeen → Type 0
AddsSpans before after more = stretches_of after.items ≡ stretches_of before.items ++ more
