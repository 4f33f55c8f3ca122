-- Small certificates.
use Rattle.std.proofs.Common.{◌≡◌, ℕ, true, false, List, [], ◌∷◌, None, Some, refl}
use Rattle.rail_base.specs.declared.station.Station.{Station}
use Rattle.rail_base.specs.declared.station.Side.TheVariants.{A, B}
use Rattle.rail_base.specs.declared.route.RouteNo.{RouteNo}
use Rattle.rail_spec.specs.Track.{routes_of}
use Rattle.rail_spec.specs.Dispatches.{of_plan}
use Rattle.rail_spec.specs.Visits.{visit_tick}
use Rattle.cone_spec.specs.Clauses.{Used, Before}
use Rattle.rail_laws.proofs.Stations.{line, at, edge, plain_edges, signal, node, train_with, goes_east, within, plan_one, plan_two, command}
use Rattle.bound_spec.specs.declared.Requirement.TheVariants as requirement
use Rattle.bound_spec.specs.declared.Origin.TheVariants as origin
use Rattle.bound_spec.specs.declared.Place.{Place}
use Rattle.bound_spec.specs.declared.Place.TheVariants as place
use Rattle.bound_spec.specs.declared.Leg.{Leg}
use Rattle.rail_base.specs.declared.plan.Violation.TheVariants as violation
use Rattle.bound_spec.specs.declared.Bound.{Bound}
use Rattle.bound_spec.specs.declared.BoundFault.TheVariants as fault
use Rattle.bound_spec.specs.Certificates.{visit_to}
use Rattle.bound_spec.specs.Clauses.{clause_of_bound}
use Rattle.rail_base.specs.Stations.{horizon}
use Rattle.bound_spec.specs.Validity.{ticks_to, fault_of}

abbrev route : ℕ → RouteNo
route r = record { 0 = r }

abbrev named : ℕ → Place
named r = place.Named (route r)

abbrev leg : ℕ → List Place → Leg
leg t ps = record { train = record { 0 = t }; places = ps }

-- one train alone, and two trains in turn, with a within and the horizon in ms
abbrev alone : ℕ → ℕ → Station
alone ms horizon = line plain_edges (signal ∷ []) (goes_east "A" ∷ []) [] (within 1 1 1 2 ms ∷ []) horizon

abbrev in_turn : ℕ → ℕ → Station
in_turn ms horizon = line plain_edges (signal ∷ []) (goes_east "A" ∷ goes_east "B" ∷ []) [] (within 1 1 2 2 ms ∷ []) horizon

abbrev through : Bound
through = record { requirement = requirement.Within 1; origin = origin.Visit; legs = leg 1 (named 1 ∷ named 2 ∷ []) ∷ [] }

-- nine ticks from entry to exit, exactly as in its run
through_ticks : ticks_to (alone 8000 12000) (routes_of (alone 8000 12000)) (horizon (alone 8000 12000)) (visit_to (alone 8000 12000) (requirement.Within 1)) (leg 1 (named 1 ∷ named 2 ∷ []) ∷ []) ≡ 9
through_ticks = refl

through_run : visit_tick (alone 8000 12000) (routes_of (alone 8000 12000)) (of_plan (routes_of (alone 8000 12000)) plan_one) 12 (record { 0 = 1 }) 2 ≡ Some 10
through_run = refl

through_too_long : fault_of (alone 8999 12000) (routes_of (alone 8999 12000)) through ≡ None
through_too_long = refl

through_in_time : fault_of (alone 9000 12000) (routes_of (alone 9000 12000)) through ≡ Some fault.BoundNotShown
through_in_time = refl

through_clause : clause_of_bound (alone 8000 12000) (routes_of (alone 8000 12000)) through ≡ record { fact = Used (command 1 1); negated = true } ∷ record { fact = Used (command 1 2); negated = true } ∷ []
through_clause = refl

-- the second train leaves 17 ticks after the first one's entry at the earliest, exactly as in the run of the plan that gives one command a step
abbrev behind : List Place → Bound
behind first = record { requirement = requirement.Within 1; origin = origin.Visit; legs = leg 1 first ∷ leg 2 (named 1 ∷ named 2 ∷ []) ∷ [] }

behind_ticks : ticks_to (in_turn 0 20000) (routes_of (in_turn 0 20000)) (horizon (in_turn 0 20000)) (visit_to (in_turn 0 20000) (requirement.Within 1)) (behind (named 1 ∷ [])).legs ≡ 17
behind_ticks = refl

behind_run : visit_tick (in_turn 0 20000) (routes_of (in_turn 0 20000)) (of_plan (routes_of (in_turn 0 20000)) plan_two) 20 (record { 0 = 2 }) 2 ≡ Some 18
behind_run = refl

-- a second train that stands at the signal until the first has left the long second section
abbrev long_second : ℕ → Station
long_second ms = line (edge "e1" (at 1 B) (at 2 A) 4000 2000 1 ∷ edge "e2" (at 2 B) (at 3 A) 20000 2000 2 ∷ []) (signal ∷ []) (goes_east "A" ∷ goes_east "B" ∷ []) [] (within 1 1 2 2 ms ∷ []) 30000

abbrev stands : Bound
stands = record { requirement = requirement.Within 1; origin = origin.Visit; legs = leg 1 (named 1 ∷ named 2 ∷ []) ∷ leg 2 (named 2 ∷ []) ∷ [] }

stands_ticks : ticks_to (long_second 0) (routes_of (long_second 0)) (horizon (long_second 0)) (visit_to (long_second 0) (requirement.Within 1)) stands.legs ≡ 25
stands_ticks = refl

stands_run : visit_tick (long_second 0) (routes_of (long_second 0)) (of_plan (routes_of (long_second 0)) plan_two) 30 (record { 0 = 2 }) 2 ≡ Some 27
stands_run = refl

stands_too_long : fault_of (long_second 24999) (routes_of (long_second 24999)) stands ≡ None
stands_too_long = refl

stands_in_time : fault_of (long_second 25000) (routes_of (long_second 25000)) stands ≡ Some fault.BoundNotShown
stands_in_time = refl

-- ---- places with alternatives

abbrev among : List RouteNo → List RouteNo → Place
among rs without = place.Among rs without

-- the route on which the first train enters is not named: it can be no other
entering : fault_of (in_turn 16999 20000) (routes_of (in_turn 16999 20000)) (behind (among (route 1 ∷ []) [] ∷ [])) ≡ None
entering = refl

entering_clause : clause_of_bound (in_turn 0 20000) (routes_of (in_turn 0 20000)) (behind (among (route 1 ∷ []) [] ∷ []))
    ≡ record { fact = Used (command 2 1); negated = true } ∷ record { fact = Used (command 2 2); negated = true } ∷ record { fact = Before (command 2 1) (command 1 1); negated = false } ∷ []
entering_clause = refl

named_clause : clause_of_bound (in_turn 0 20000) (routes_of (in_turn 0 20000)) (behind (named 1 ∷ []))
    ≡ record { fact = Used (command 1 1); negated = true } ∷ record { fact = Used (command 2 1); negated = true } ∷ record { fact = Used (command 2 2); negated = true } ∷ record { fact = Before (command 1 1) (command 2 1); negated = true } ∷ []
named_clause = refl

-- a last place that leaves out the route on which the visit is made
abbrev short_of : Bound
short_of = record { requirement = requirement.Within 1; origin = origin.Visit; legs = leg 1 (named 1 ∷ []) ∷ leg 2 (among (route 1 ∷ []) [] ∷ []) ∷ [] }

short_of_target : fault_of (in_turn 0 20000) (routes_of (in_turn 0 20000)) short_of ≡ Some fault.PlaceNotCovered
short_of_target = refl

-- the second leg's first route shares no section with the first leg's last
apart_legs : fault_of (in_turn 0 20000) (routes_of (in_turn 0 20000)) (record { requirement = requirement.Within 1; origin = origin.Visit; legs = leg 1 (named 1 ∷ []) ∷ leg 2 (named 2 ∷ []) ∷ [] }) ≡ Some fault.BoundNotInDesign
apart_legs = refl

-- ---- other origins and requirements

-- the second train's first command is granted 9 ticks after the start at the earliest, behind the first train
abbrev shut_out : Bound
shut_out = record { requirement = requirement.Grant (command 2 1); origin = origin.Start; legs = leg 1 (named 1 ∷ []) ∷ leg 2 (named 1 ∷ []) ∷ [] }

shut_out_late : fault_of (in_turn 0 8000) (routes_of (in_turn 0 8000)) shut_out ≡ None
shut_out_late = refl

shut_out_soon : fault_of (in_turn 0 9000) (routes_of (in_turn 0 9000)) shut_out ≡ Some fault.BoundNotShown
shut_out_soon = refl

-- the exit behind it, after the start of the run
abbrev out_late : Bound
out_late = record { requirement = requirement.Visit (record { 0 = 2 }) 2; origin = origin.Start; legs = leg 1 (named 1 ∷ []) ∷ leg 2 (named 1 ∷ named 2 ∷ []) ∷ [] }

out_too_late : fault_of (in_turn 0 17000) (routes_of (in_turn 0 17000)) out_late ≡ None
out_too_late = refl

out_in_time : fault_of (in_turn 0 18000) (routes_of (in_turn 0 18000)) out_late ≡ Some fault.BoundNotShown
out_in_time = refl

-- the first train enters in the first tick where nothing is given before it
abbrev at_once : Bound
at_once = record { requirement = requirement.Within 1; origin = origin.FirstTick; legs = leg 1 (named 1 ∷ []) ∷ leg 2 (named 1 ∷ named 2 ∷ []) ∷ [] }

at_once_shown : fault_of (in_turn 16999 20000) (routes_of (in_turn 16999 20000)) at_once ≡ None
at_once_shown = refl

-- or where a cone says at which tick
abbrev by_cone : ℕ → Bound
by_cone tick = record {
  requirement = requirement.Within 1;
  origin = origin.Cone tick (record { trains = record { train = record { 0 = 1 }; horizon = 1; free = 1; path = route 1 ∷ []; holder = None } ∷ []; pairs = []; violation = violation.Within 1 });
  legs = leg 1 (named 1 ∷ []) ∷ leg 2 (named 1 ∷ named 2 ∷ []) ∷ [];
}

by_cone_shown : fault_of (in_turn 16999 20000) (routes_of (in_turn 16999 20000)) (by_cone 1) ≡ None
by_cone_shown = refl

by_cone_elsewhere : fault_of (in_turn 0 20000) (routes_of (in_turn 0 20000)) (by_cone 2) ≡ Some fault.BoundNotShown
by_cone_elsewhere = refl

-- ---- stops

-- one train that stands for three ticks between its first visit and its third: no bound counts these, so it is no more than what the run takes
abbrev standing : ℕ → Station
standing ms = line plain_edges (signal ∷ []) (train_with "A" ((node 1 ∷ []) ∷ (node 2 ∷ []) ∷ (node 3 ∷ []) ∷ []) (0 ∷ 3000 ∷ 0 ∷ []) ∷ []) [] (within 1 1 1 3 ms ∷ []) 20000

standing_ticks : ticks_to (standing 8000) (routes_of (standing 8000)) (horizon (standing 8000)) (visit_to (standing 8000) (requirement.Within 1)) (leg 1 (named 1 ∷ named 2 ∷ []) ∷ []) ≡ 9
standing_ticks = refl

standing_run : visit_tick (standing 8000) (routes_of (standing 8000)) (of_plan (routes_of (standing 8000)) plan_one) 20 (record { 0 = 1 }) 3 ≡ Some 16
standing_run = refl

standing_too_long : fault_of (standing 8999) (routes_of (standing 8999)) through ≡ None
standing_too_long = refl

standing_not_shown : fault_of (standing 9000) (routes_of (standing 9000)) through ≡ Some fault.BoundNotShown
standing_not_shown = refl
