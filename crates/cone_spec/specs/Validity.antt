-- Which cones are valid, and the first reason against one that is not.
use Rattle.std.specs.Prelude.{ℕ, ◌+◌, ◌-◌, Bool, true, false, not, ◌&&◌, ◌||◌, ◌==◌, List, [], ◌∷◌, map, length}
use Rattle.std.specs.Prelude.{slice_get, nat_le, nat_lt, Option, None, Some, is_none}
use Rattle.std.specs.List.{list_any, list_all}
use Rattle.rail_base.specs.declared.station.Station.{Station}
use Rattle.rail_base.specs.declared.station.TrainNo.{TrainNo}
use Rattle.rail_base.specs.declared.route.Route.{Route}
use Rattle.rail_base.specs.declared.route.RouteNo.{RouteNo}
use Rattle.rail_base.specs.declared.route.Start.{Start}
use Rattle.rail_base.specs.declared.route.Start.TheVariants as start
use Rattle.rail_base.specs.declared.plan.Command.{Command}
use Rattle.rail_base.specs.declared.plan.Violation.{Violation}
use Rattle.rail_base.specs.declared.plan.Violation.TheVariants as violation
use Rattle.cone_spec.specs.declared.ConeTrain.{ConeTrain}
use Rattle.cone_spec.specs.declared.Cone.{Cone}
use Rattle.cone_spec.specs.declared.ConeFault.{ConeFault}
use Rattle.cone_spec.specs.declared.ConeFault.TheVariants as fault
use Rattle.rail_base.specs.Numbering.{entry}
use Rattle.rail_spec.specs.Plans.{route_at, is_train, is_command, is_start, goes_on, shared, contend}
use Rattle.rail_base.specs.Members.{all_pairs, all_neighbors}
use Rattle.rail_base.specs.Admission.{is_from, is_visit}
use Rattle.rail_base.specs.Stations.{train_of, horizon, within_of, order_of}
use Rattle.rail_spec.specs.Visits.{visit_tick}
use Rattle.rail_spec.specs.Dispatches.{state_of, pasts_at, state_at, has_released}
use Rattle.rail_spec.specs.Requirements.{most_ticks}
use Rattle.rail_spec.specs.Places.{path_nodes, visits_on}
use Rattle.cone_spec.specs.Cones.{named, all_free, is_named, has_pair, of_cone}

-- the first is less than the second by train, and by route where the trains are the same
abbrev pub is_before : Command → Command → Bool
is_before d c = nat_lt d.train.0 c.train.0 || (d.train.0 == c.train.0) && nat_lt d.route.0 c.route.0

-- the first pair is less, by its first command and then by its second
abbrev pub is_pair_before : Command × Command → Command × Command → Bool
is_pair_before p q = is_before p.0 q.0 || is_command p.0 q.0 && is_before p.1 q.1

-- the first route starts at a boundary
abbrev pub from_boundary : List Route → Bool
from_boundary [] = false
from_boundary (r ∷ rs) = is_boundary r.start
  where
    is_boundary : Start → Bool
    is_boundary (start.Boundary n) = true
    is_boundary (start.Signal s) = false

-- routes in a row, from a boundary, that use no start twice
abbrev pub is_walk : List Route → Bool
is_walk rs = from_boundary rs && all_neighbors (λ r q. goes_on r.finish q.start) rs
    && all_pairs (λ r q. not (is_start r.start q.start)) rs

-- the first test that fails, as a reason
abbrev pub first_fault : Bool → Bool → Bool → Bool → Option ConeFault
first_fault false granted held_up shows = Some fault.PathNotInDesign
first_fault true false held_up shows = Some fault.CommandNotGranted
first_fault true true false shows = Some fault.HolderNotValid
first_fault true true true false = Some fault.ViolationNotShown
first_fault true true true true = None

module _ (d : Station) (routes : List Route) (k : Cone) where
  -- ---- the first reason: path not in design

  -- what is said of one train is possible in the design
  abbrev pub train_in_design : ConeTrain → Bool
  train_in_design c = is_from 1 (length d.trains) c.train.0 && list_all (λ r. is_from 1 (length routes) r.0) c.path
      && nat_le c.horizon (horizon d) && nat_le c.free (length c.path)
      && is_walk (map (route_at routes) c.path)

  -- the holder, if any, is a command of the cone
  abbrev pub holder_in_path : Option Command → Bool
  holder_in_path None = true
  holder_in_path (Some h) = is_named k h

  -- a pair is of two commands of the cone, of different trains, that share a section
  abbrev pub pair_in_design : Command × Command → Bool
  pair_in_design p = is_named k p.0 && is_named k p.1 && contend routes p.0 p.1

  -- a path cone names its own train alone, and nothing but its path
  abbrev pub only_path : TrainNo → List ConeTrain → Bool
  only_path t (c ∷ []) = is_train c.train t && (c.horizon == 0) && (c.free == 0) && is_none c.holder
  only_path t _ = false

  -- there is no pair
  abbrev pub no_pairs : List (Command × Command) → Bool
  no_pairs [] = true
  no_pairs (p ∷ ps) = false

  -- the violation names what there is
  abbrev pub violation_in_design : Violation → Bool
  violation_in_design (violation.Path t j) = is_visit d t j && only_path t k.trains && no_pairs k.pairs
  violation_in_design (violation.Within w) = is_from 1 (length d.withins) w
  violation_in_design (violation.Order o) = is_from 1 (length d.orders) o
  violation_in_design (violation.Grant t j) = is_from 1 (length d.trains) t.0 && is_from 1 (length (named k t).path) j
  violation_in_design (violation.Visit t j) = is_visit d t j

  -- the cone speaks of the design
  abbrev pub in_design : Bool
  in_design = list_all train_in_design k.trains && all_neighbors (λ a b. nat_lt a.train.0 b.train.0) k.trains
      && list_all (λ c. holder_in_path c.holder) k.trains
      && list_all pair_in_design k.pairs && all_neighbors is_pair_before k.pairs
      && violation_in_design k.violation

  -- ---- the second: command not granted

  -- how many commands of a train are granted by a tick of the cone's run
  abbrev pub granted_at : ℕ → TrainNo → ℕ
  granted_at tick t = (state_of (state_at d routes (of_cone k) tick) t).granted

  -- the free commands are granted by the horizon
  abbrev pub free_granted : ConeTrain → Bool
  free_granted c = nat_le c.free (granted_at c.horizon c.train)

  -- ---- the third: holder not valid

  -- the last free command is granted exactly at the horizon, which is not 0
  abbrev pub just_granted : ConeTrain → Bool
  just_granted c = nat_lt (granted_at (c.horizon - 1) c.train) c.free

  -- the command is listed before the train's first waiting one, and at the tick before the train's horizon it has a section of that one's unreleased
  abbrev pub holds_up : ConeTrain → Command → Option RouteNo → Bool
  holds_up c h None = false
  holds_up c h (Some w) =
      let waiting : Command = record { train = c.train; route = w } in
      let pasts = pasts_at d routes (of_cone k) (c.horizon - 1) in
      let sections = shared (route_at routes h.route) (route_at routes w) in
      has_pair k h waiting && nat_le c.horizon ((named k h.train).horizon + 1)
      && list_any (λ z. not (has_released d routes (of_cone k) pasts h z)) sections

  -- a train with a waiting command has a holder exactly where it is needed, and any other train has none
  abbrev pub holder_needed : ConeTrain → Bool
  holder_needed c = not (all_free c) && not (c.horizon == 0) && not (just_granted c)

  -- the holder is there where it is needed, and holds the train up
  abbrev pub holder_fits : ConeTrain → Option Command → Bool
  holder_fits c None = not (holder_needed c)
  holder_fits c (Some h) = holder_needed c && holds_up c h (slice_get c.path c.free)

  -- ---- the fourth: violation not shown

  -- the tick of a visit in the cone's run
  abbrev pub cone_visit : ℕ → TrainNo → ℕ → Option ℕ
  cone_visit tick t j = visit_tick d routes (of_cone k) tick t j

  -- the visit is made at a tick, of which the rest is asked
  abbrev pub at_its_tick : Option ℕ → (ℕ → Bool) → Bool
  at_its_tick None rest = false
  at_its_tick (Some a) rest = rest a

  -- the violation is certain in the cone's run
  abbrev pub shows_violation : Violation → Bool
  shows_violation (violation.Path t j) =
      let way = map (route_at routes) (named k t).path in
      is_none (entry None (visits_on (train_of d t).visits (path_nodes way)) j)
  shows_violation (violation.Within w) = let within = within_of d w in
      at_its_tick (cone_visit (named k within.from_train).horizon within.from_train within.from_visit) (λ a.
      nat_le (a + most_ticks d within) (named k within.to_train).horizon
      && is_none (cone_visit (a + most_ticks d within) within.to_train within.to_visit))
  shows_violation (violation.Order o) = let order = order_of d o in
      at_its_tick (cone_visit (named k order.then_train).horizon order.then_train order.then_visit) (λ a.
      nat_le a ((named k order.first_train).horizon + 1)
      && is_none (cone_visit (a - 1) order.first_train order.first_visit))
  shows_violation (violation.Grant t j) = ((named k t).horizon == horizon d) && nat_lt (named k t).free j
  shows_violation (violation.Visit t j) = ((named k t).horizon == horizon d) && is_none (cone_visit (horizon d) t j)

  -- the first reason that holds
  abbrev pub fault_of : Option ConeFault
  fault_of =
      let granted = list_all free_granted k.trains in
      let held_up = list_all (λ c. holder_fits c c.holder) k.trains in
      first_fault in_design granted held_up (shows_violation k.violation)

  -- no reason holds against the cone
  abbrev pub is_valid_cone : Bool
  is_valid_cone = is_none fault_of
