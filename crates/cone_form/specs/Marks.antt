-- Commands of a cone, marked by the numbers of their trains and routes.
use Rattle.std.specs.Prelude.{◌≡◌, Bool, true, false, ◌&&◌, List, []}
use Rattle.rail_base.specs.declared.plan.Command.{Command}
use Rattle.rail_base.specs.declared.route.Route.{Route}
use Rattle.rail_base.specs.declared.route.RouteNo.{RouteNo}
use Rattle.rail_base.specs.Numbering.{entry}
use Rattle.rail_base.specs.Routes.{IsRoute}
use Rattle.rail_spec.specs.Plans.{contend}
use Rattle.cone_spec.specs.declared.Cone.{Cone}
use Rattle.cone_spec.specs.Cones.{has_route, is_named}

-- exactly the routes of the path are marked
abbrev pub MarksPath : List RouteNo → List Bool → Type 0
MarksPath path marks = (r : RouteNo) → entry false marks r.0 ≡ has_route path r

-- the mark of a command, in the row of its train
abbrev pub mark_of : List (List Bool) → Command → Bool
mark_of rows c = entry false (entry [] rows c.train.0) c.route.0

-- exactly the commands of the cone are marked
abbrev pub MarksCone : Cone → List (List Bool) → Type 0
MarksCone k rows = (c : Command) → mark_of rows c ≡ is_named k c

-- only commands whose routes are there are marked
abbrev pub MarkRoutes : List Route → List (List Bool) → Type 0
MarkRoutes routes rows = (c : Command) → mark_of rows c ≡ true → IsRoute routes c.route

-- both commands are marked, and they contend
abbrev pub marked_pair : List Route → List (List Bool) → Command × Command → Bool
marked_pair routes rows p = mark_of rows p.0 && mark_of rows p.1 && contend routes p.0 p.1
