-- How routes are named: by where they start and end.
use Rattle.std.specs.Prelude.{ℕ, Bool, false, not, ◌&&◌, ◌==◌, List, [], ◌++◌, codes, decimal, find, Option, None, Some}
use Rattle.std.specs.List.{list_any}
use Rattle.rail_base.specs.declared.route.Finish.{Finish}
use Rattle.rail_base.specs.declared.route.Finish.TheVariants as finish
use Rattle.rail_base.specs.declared.route.Route.{Route}
use Rattle.rail_base.specs.declared.route.RouteNo.{RouteNo}
use Rattle.rail_base.specs.declared.route.Start.{Start}
use Rattle.rail_base.specs.declared.route.Start.TheVariants as start
use Rattle.rail_base.specs.declared.station.SectionNo.{SectionNo}
use Rattle.rail_base.specs.declared.station.Station.{Station}
use Rattle.rail_base.specs.Names.{node_name, section_name, signal_name}
use Rattle.rail_base.specs.Routes.{goes_over, own_sections, route_at}
use Rattle.rail_spec.specs.Plans.{is_start}
use Rattle.cone_words.specs.Phrases.{joined}

-- the boundary or the signal at which a route starts
abbrev pub start_name : Station → Start → List ℕ
start_name d (start.Boundary n) = node_name d n
start_name d (start.Signal s) = signal_name d s

-- the signal, the boundary or the last node at which it ends
abbrev pub finish_name : Station → Finish → List ℕ
finish_name d (finish.Exit n) = node_name d n
finish_name d (finish.Signal s) = signal_name d s
finish_name d (finish.DeadEnd n) = node_name d n

-- both end at one place
abbrev pub is_finish : Finish → Finish → Bool
is_finish (finish.Exit m) (finish.Exit n) = m.0 == n.0
is_finish (finish.Exit m) (finish.Signal s) = false
is_finish (finish.Exit m) (finish.DeadEnd n) = false
is_finish (finish.Signal s) (finish.Exit n) = false
is_finish (finish.Signal s) (finish.Signal q) = s.0 == q.0
is_finish (finish.Signal s) (finish.DeadEnd n) = false
is_finish (finish.DeadEnd m) (finish.Exit n) = false
is_finish (finish.DeadEnd m) (finish.Signal s) = false
is_finish (finish.DeadEnd m) (finish.DeadEnd n) = m.0 == n.0

-- both start at one place, and end at one
abbrev pub is_twin : Route → Route → Bool
is_twin r q = is_start r.start q.start && is_finish r.finish q.finish

-- of the routes that start and end as this one does, some one does not go over the section
abbrev pub tells_apart : List Route → Route → SectionNo → Bool
tells_apart routes r z = list_any (λ q. is_twin r q && not (goes_over q z)) routes

-- ` by z2`
abbrev pub by_text : Station → Option SectionNo → List ℕ
by_text d None = []
by_text d (Some z) = codes " by " ++ section_name d z

module _ (d : Station) (routes : List Route) where
  -- ` by z2`: where others start and end as this one does, the first section in which they differ
  abbrev pub way_text : Route → List ℕ
  way_text r = by_text d (find (tells_apart routes r) (own_sections r))

  -- where it starts and ends
  abbrev pub ends_text : Route → List ℕ
  ends_text r = start_name d r.start ++ codes " to " ++ finish_name d r.finish ++ way_text r

  -- of the route of a number
  abbrev pub ends_text_at : RouteNo → List ℕ
  ends_text_at r = ends_text (route_at routes r)

  -- `west to s4 by z2 (3)`: with its number behind
  abbrev pub route_text : RouteNo → List ℕ
  route_text r = ends_text_at r ++ codes " (" ++ decimal r.0 ++ codes ")"

  -- `route west to s4 (3) or west to s6 (5)`
  abbrev pub any_route_text : List RouteNo → List ℕ
  any_route_text rs = codes "route " ++ joined (codes " or ") route_text rs

  -- `route west to s4 (3), route s4 to east (5)`
  abbrev pub path_text : List RouteNo → List ℕ
  path_text rs = codes "route " ++ joined (codes ", route ") route_text rs
