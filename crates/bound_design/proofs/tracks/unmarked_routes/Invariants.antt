use Rattle.std.proofs.Common.{◌≡◌, Bool, false, ◌&&◌, ◌||◌, not, length}
use Rattle.std.specs.List.{list_all}
use Rattle.rail_base.specs.declared.route.Route.{Route}
use Rattle.rail_base.specs.declared.route.RouteNo.{RouteNo}
use Rattle.rail_base.specs.Numbering.{entry}
use Rattle.rail_spec.specs.Plans.{route_at, route_numbers}
use Rattle.bound_design.proofs.Openings.{from}
use Rattle.bound_design.proofs.tracks.unmarked_routes.Given as goal

-- the routes so far without a mark, with all routes that are left
abbrev pub invariant-loop-number : goal.invariant-loop-number
invariant-loop-number l = (test : Route → Bool) →
    let marked : RouteNo → Bool = λ r. not (test (route_at l.interlocking.routes r)) || entry false l.own r.0 || entry false l.kept r.0 in
    (list_all (λ r. not (test r.now)) l.open.items && from marked (length l.interlocking.routes) l.number) ≡ list_all marked (route_numbers l.interlocking.routes)
