-- Routes of places, and those that are of none, as the code has them.
use Rattle.std.specs.Prelude.{◌≡◌, Bool, false, not, ◌||◌, List}
use Rattle.std.specs.Borrow.{Bor}
use Rattle.std.specs.List.{list_all, list_any}
use Rattle.rail_base.specs.declared.station.NodeNo.{NodeNo}
use Rattle.rail_base.specs.declared.route.Finish.{Finish}
use Rattle.rail_base.specs.declared.route.Finish.TheVariants as finish
use Rattle.rail_base.specs.declared.route.Route.{Route}
use Rattle.rail_base.specs.declared.route.RouteNo.{RouteNo}
use Rattle.rail_base.specs.Numbering.{entry}
use Rattle.rail_spec.specs.Plans.{goes_on, has_node, route_at, route_numbers}
use Rattle.cone_spec.specs.Cones.{has_route}
use Rattle.number_sets.specs.declared.set.NumberSet.{NumberSet}
use Rattle.number_sets.specs.Sets.{contains}

-- the set has the numbers of the nodes
abbrev pub IsNodeSet : NumberSet → List NodeNo → Type 0
IsNodeSet set nodes = (n : NodeNo) → contains set n.0 ≡ has_node nodes n

-- a route with this finish ends at a signal of the set
abbrev pub leads_into : NumberSet → Finish → Bool
leads_into set (finish.Signal s) = contains set s.0
leads_into set (finish.Exit n) = false
leads_into set (finish.DeadEnd n) = false

module _ (routes : List Route) where
  -- these are the routes of the numbers: all of the ones pass a test where all of the others do
  abbrev pub AreOf : List RouteNo → List (Bor Route) → Type 0
  AreOf numbers rs =
      (test : Route → Bool) → list_all (λ r. test r.now) rs ≡ list_all (λ r. test (route_at routes r)) numbers

  -- these are the routes with neither of two marks: each other route that passes a test has one
  abbrev pub AreUnmarked : List Bool → List Bool → List (Bor Route) → Type 0
  AreUnmarked own kept rs = (test : Route → Bool) → list_all (λ r. not (test r.now)) rs
      ≡ list_all (λ r. not (test (route_at routes r)) || entry false own r.0 || entry false kept r.0)
      (route_numbers routes)

  -- these are the routes that are neither of the first numbers nor of the second
  abbrev pub AreOpen : List RouteNo → List RouteNo → List (Bor Route) → Type 0
  AreOpen own kept rs = (test : Route → Bool) → list_all (λ r. not (test r.now)) rs
      ≡ list_all (λ r. not (test (route_at routes r)) || has_route own r || has_route kept r) (route_numbers routes)

  -- the set has the signals at which the routes of these numbers start
  abbrev pub IsStartSet : NumberSet → List RouteNo → Type 0
  IsStartSet set numbers = (f : Finish) → leads_into set f ≡ list_any (λ q. goes_on f (route_at routes q).start) numbers
