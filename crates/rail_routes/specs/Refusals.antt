-- Designs whose routes are listed, and why those of others are refused.
use Rattle.std.specs.Prelude.{◌≡◌, ℕ, zero, suc, ◌≤◌, List, [], ◌∷◌, Option, None, Some, flat_map, length, ◌≢◌}
use Rattle.rail_base.specs.declared.station.Station.{Station}
use Rattle.rail_base.specs.declared.route.Route.{Route}
use Rattle.rail_base.specs.declared.route.Start.{Start}
use Rattle.rail_base.specs.Numbering.{first_of_list}
use Rattle.rail_spec.specs.Track.{Walk, Whole, RepeatsEdge, all_walks, walks_from, edges_met_again, route_from}
use Rattle.rail_routes.specs.declared.fault.RouteFault.{RouteFault}
use Rattle.rail_routes.specs.declared.fault.RouteFault.TheVariants as fault
use Rattle.rail_base.specs.declared.station.EdgeNo.{EdgeNo}

-- at most 2,000 paths close, and none meets an edge again
pub record CanBeListed (d : Station) : Type 0 where
  pub once : edges_met_again d ≡ []
  pub at_most_2000 : length (all_walks d) ≤ 2000

-- the fault is found: of the first 2,001 closed paths the first that meets an edge again meets this one, or none does and there are so many
abbrev pub HasFault : Station → RouteFault → Type 0
HasFault d (fault.RepeatsEdge e) = first_of_list (edges_met_again d) ≡ Some e
HasFault d fault.TooMany = (edges_met_again d ≡ []) × (2001 ≤ length (all_walks d))
HasFault d fault.Memory = Unit {0}

-- the routes from a start
abbrev pub routes_from : Station → Start → List Route
routes_from d s = flat_map (route_from d s) (walks_from d s)

-- what is wrong with closed paths, taken in order, where there is room for so many routes
abbrev pub fault_of : ℕ → List Walk → Option RouteFault
fault_of room [] = None
fault_of room (RepeatsEdge e ∷ cs) = Some (fault.RepeatsEdge e)
fault_of zero (Whole path finish ∷ cs) = Some fault.TooMany
fault_of (suc room) (Whole path finish ∷ cs) = fault_of room cs

-- this is wrong with them, or memory was wanting
abbrev pub IsFaultOf : ℕ → List Walk → RouteFault → Type 0
IsFaultOf room cs (fault.RepeatsEdge e) = fault_of room cs ≡ Some (fault.RepeatsEdge e)
IsFaultOf room cs fault.TooMany = fault_of room cs ≡ Some fault.TooMany
IsFaultOf room cs fault.Memory = Unit {0}

-- the search meets some edge again
abbrev pub SomeRepeats : Station → Type 0
SomeRepeats d = (e : EdgeNo) × HasFault d (fault.RepeatsEdge e)

-- the fault is found, and is no want of memory
abbrev pub HasReason : Station → RouteFault → Type 0
HasReason d x = (x ≢ fault.Memory) × HasFault d x
