-- What the laws say of the names of routes.
use Rattle.std.specs.Prelude.{◌≡◌, ◌↔◌, true, ℕ, List, Some}
use Rattle.rail_base.specs.declared.station.Station.{Station}
use Rattle.rail_base.specs.declared.route.Route.{Route}
use Rattle.rail_base.specs.declared.route.RouteNo.{RouteNo}
use Rattle.rail_base.specs.Admission.{is_admitted}
use Rattle.rail_base.specs.Members.{In}
use Rattle.rail_base.specs.Routes.{IsRoute, route_at}
use Rattle.rail_spec.specs.Track.{routes_of}
use Rattle.plan_names.specs.Shown.{shown, number_named}

-- routes of an admitted design that are shown by the same names are one
abbrev pub ShownApart : Station → Type 0
ShownApart d = is_admitted d ≡ true → (r q : Route) → In r (routes_of d) → In q (routes_of d)
    → shown d (routes_of d) r ≡ shown d (routes_of d) q → r ≡ q

-- names stand for a route exactly where it is shown by them
abbrev pub NamesStandForRoutes : Station → Type 0
NamesStandForRoutes d = is_admitted d ≡ true → (names : List (List ℕ)) (n : RouteNo)
    → (number_named d (routes_of d) names ≡ Some n)
    ↔ (IsRoute (routes_of d) n × (shown d (routes_of d) (route_at (routes_of d) n) ≡ names))
