-- The sections of routes, as sets of their numbers.
use Rattle.std.specs.Prelude.{ℕ, ◌≡◌, List, map, fold, max, length}
use Rattle.rail_base.specs.declared.station.SectionNo.{SectionNo}
use Rattle.rail_base.specs.declared.route.Route.{Route}
use Rattle.rail_base.specs.declared.route.RouteNo.{RouteNo}
use Rattle.rail_base.specs.Routes.{IsRoute, has_section, release_offset, own_shared, route_at}
use Rattle.rail_base.specs.Numbering.{entry}
use Rattle.number_sets.specs.declared.set.NumberSet.{NumberSet}
use Rattle.number_sets.specs.Sets.{contains}

-- the set has the numbers of the route's sections
abbrev pub IsSectionSet : NumberSet → Route → Type 0
IsSectionSet set r = (z : SectionNo) → contains set z.0 ≡ has_section r z

-- for each route the set of its sections
pub record AreSectionSets (routes : List Route) (sets : List NumberSet) : Type 0 where
  pub set_a_route : length sets ≡ length routes
  pub each : (r : RouteNo) (none : NumberSet) → IsRoute routes r
      → IsSectionSet (entry none sets r.0) (route_at routes r)

-- where the first route has released all its own sections that the second has too
abbrev pub last_release : Route → Route → ℕ
last_release r q = fold max 0 (map (release_offset r) (own_shared r q))
