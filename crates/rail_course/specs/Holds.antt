-- How long trains hold on the sections of the overlaps at the ends of their routes.
use Rattle.std.specs.Prelude.{◌≡◌, ◌+◌, Bool, false, ◌++◌, List, map, flat_map, length, Option, None, Some, Vec}
use Rattle.rail_base.specs.declared.station.Station.{Station}
use Rattle.rail_base.specs.declared.station.SectionNo.{SectionNo}
use Rattle.rail_base.specs.declared.station.TrainNo.{TrainNo}
use Rattle.rail_base.specs.declared.route.Route.{Route}
use Rattle.rail_base.specs.declared.route.RouteNo.{RouteNo}
use Rattle.rail_base.specs.declared.plan.Command.{Command}
use Rattle.rail_base.specs.declared.state.TrainState.{TrainState}
use Rattle.rail_base.specs.Routes.{route_at, held_sections}
use Rattle.rail_spec.specs.Dispatches.{Dispatch, has_come, routes_before, release}
use Rattle.rail_course.specs.declared.journey.Hold.{Hold}
use Rattle.std.specs.declared.alloc.Global.{Global}

module _ (d : Station) (routes : List Route) (p : Dispatch) where
  -- how a command holds a section: until it is released, so many ticks after the train has come to the node at the
  -- route's end
  abbrev pub hold_for : Command → SectionNo → Hold
  hold_for c z =
      let before = length (flat_map (λ r. r.edges) (routes_before d routes p c)) in
      let node = before + length (route_at routes c.route).edges in
      record { route = c.route; section = z; event = release d routes p c z; node = node }

  -- the holds of one route of a train's path
  abbrev pub holds_of_route : TrainNo → RouteNo → List Hold
  holds_of_route t r = map (hold_for (record { train = t; route = r })) (held_sections (route_at routes r))

  -- those of all its routes
  abbrev pub holds_of_train : TrainNo → List Hold
  holds_of_train t = flat_map (holds_of_route t) (p.path t)

-- there is a hold, and it has ended
abbrev pub is_hold_over : List (List TrainState) → Option Hold → Bool
is_hold_over ps None = false
is_hold_over ps (Some h) = has_come ps h.event

-- these holds are added
abbrev pub AddsHolds : Vec Hold Global → Vec Hold Global → List Hold → Type 0
AddsHolds before after more = after.items ≡ before.items ++ more
