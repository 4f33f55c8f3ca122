-- The ticks that are printed are those of the definitions of bounds.
use Rattle.std.specs.Prelude.{◌≡◌, ℕ, List, ◌∷◌, Option, None, Some}
use Rattle.rail_base.specs.declared.station.Station.{Station}
use Rattle.rail_base.specs.declared.route.Route.{Route}
use Rattle.bound_spec.specs.declared.Leg.{Leg}
use Rattle.bound_spec.specs.Certificates.{VisitOf, ride_of}
use Rattle.bound_spec.specs.Rides.{release_ticks}
use Rattle.bound_spec.specs.Validity.{ticks_from_visit, ticks_to}
use Rattle.bound_ticks.specs.Chains.{chain_of, leg_to_release}
use Rattle.bound_ticks.specs.Walks.{first_routes}

-- from the grant of the first leg's first command to where the legs are through
abbrev pub EndsAsTheChain : Type 0
EndsAsTheChain = (d : Station) (routes : List Route) (h : ℕ) (to : Option VisitOf) (legs : List Leg)
    → chain_of d routes h None to legs ≡ ticks_to d routes h to legs

-- the same from a visit on the first leg
abbrev pub EndsAsTheChainFromVisit : Type 0
EndsAsTheChainFromVisit = (d : Station) (routes : List Route) (h : ℕ) (from to : VisitOf) (legs : List Leg)
    → chain_of d routes h (Some from) (Some to) legs ≡ ticks_from_visit d routes h from to legs

-- from the grant of a leg's first command to where it has released what the next one waits for
abbrev pub WaitsForTheRelease : Type 0
WaitsForTheRelease = (d : Station) (routes : List Route) (h : ℕ) (l m : Leg) (legs : List Leg)
    → leg_to_release d routes h None l (first_routes (m ∷ legs))
    ≡ release_ticks d routes h (ride_of routes l) (ride_of routes m)
