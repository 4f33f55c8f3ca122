-- What a plan has to meet, and when it is certain that it fails.
use Rattle.std.specs.Prelude.{ℕ, ◌+◌, ◌*◌, ◌/◌, ◌-◌, Bool, false, not, ◌&&◌, ◌||◌, ◌==◌, if◌then◌else◌, List, ◌++◌, map}
use Rattle.std.specs.Prelude.{flat_map, length, nat_le, nat_lt, Option, None, Some, is_some, is_none, unwrap_or, find}
use Rattle.std.specs.List.{list_all}
use Rattle.rail_base.specs.declared.station.Station.{Station}
use Rattle.rail_base.specs.declared.station.Order.{Order}
use Rattle.rail_base.specs.declared.station.Within.{Within}
use Rattle.rail_base.specs.declared.station.TrainNo.{TrainNo}
use Rattle.rail_base.specs.declared.route.Route.{Route}
use Rattle.rail_base.specs.declared.plan.Command.{Command}
use Rattle.rail_base.specs.declared.plan.Violation.{Violation}
use Rattle.rail_base.specs.declared.plan.Violation.TheVariants as violation
use Rattle.rail_base.specs.Numbering.{entry, one_to, least}
use Rattle.rail_spec.specs.Plans.{path}
use Rattle.rail_base.specs.Stations.{train_of, trains, horizon, order_of, within_of}
use Rattle.rail_spec.specs.Dispatches.{state_of, of_plan, state_at}
use Rattle.rail_spec.specs.Visits.{visits_of_train, visit_tick}

-- both ticks are there, and pass the test
abbrev pub both : (ℕ → ℕ → Bool) → Option ℕ → Option ℕ → Bool
both test (Some a) (Some b) = test a b
both test _ _ = false

-- the numbers of a train's visits
abbrev pub visit_numbers : Station → TrainNo → List ℕ
visit_numbers d t = one_to (length (train_of d t).visits)

-- the most ticks that a within allows
abbrev pub most_ticks : Station → Within → ℕ
most_ticks d w = w.max_ms / d.tick_ms

-- k is so many ticks after this one, which is there
abbrev pub is_after : ℕ → Option ℕ → ℕ → Bool
is_after m (Some a) k = a + m == k
is_after m None k = false

module _ (d : Station) (routes : List Route) (plan : List (List Command)) where
  -- the numbers of a train's commands
  abbrev pub command_numbers : TrainNo → List ℕ
  command_numbers t = one_to (length (path plan t))

  -- by tick k the train's command of this number is granted
  abbrev pub granted_by : ℕ → TrainNo → ℕ → Bool
  granted_by k t j = nat_le j (state_of (state_at d routes (of_plan routes plan) k) t).granted

  -- the tick, up to k, of a visit
  abbrev pub visited_at : ℕ → TrainNo → ℕ → Option ℕ
  visited_at k t j = visit_tick d routes (of_plan routes plan) k t j

  -- by tick k the visit is made
  abbrev pub visited_by : ℕ → TrainNo → ℕ → Bool
  visited_by k t j = is_some (visited_at k t j)

  -- by tick k all commands are granted and all visits are made
  abbrev pub is_done : ℕ → Bool
  is_done k = list_all (λ t. list_all (granted_by k t) (one_to (length (path plan t)))) (trains d)
      && list_all (λ t. list_all (visited_by k t) (one_to (length (train_of d t).visits))) (trains d)

  -- the first visit's tick is before the other's
  abbrev pub keeps_order : ℕ → Order → Bool
  keeps_order k o = both nat_lt (visited_at k o.first_train o.first_visit) (visited_at k o.then_train o.then_visit)

  -- the time from the one visit to the other is at most the given one
  abbrev pub keeps_within : ℕ → Within → Bool
  keeps_within k w =
      let is_in_time = λ (from to : ℕ). nat_le (to * d.tick_ms) (from * d.tick_ms + w.max_ms) in
      both is_in_time (visited_at k w.from_train w.from_visit) (visited_at k w.to_train w.to_visit)

  -- the plan meets the design
  abbrev pub meets : Bool
  meets = is_done (horizon d) && list_all (keeps_order (horizon d)) d.orders
      && list_all (keeps_within (horizon d)) d.withins

  -- ---- violations

  -- the plan's failure in this way becomes certain at tick k
  abbrev pub is_certain : ℕ → Violation → Bool
  is_certain k (violation.Path t j) =
      (k == 1) && is_none (entry None (visits_of_train d routes (of_plan routes plan) t) j)
  is_certain k (violation.Within w) =
      let within = within_of d w in
      nat_le k (horizon d) && is_after (most_ticks d within) (visited_at k within.from_train within.from_visit) k
      && not (visited_by k within.to_train within.to_visit)
  is_certain k (violation.Order o) = let order = order_of d o in
      is_after 0 (visited_at k order.then_train order.then_visit) k
      && not (visited_by (k - 1) order.first_train order.first_visit)
  is_certain k (violation.Grant t j) = (k == horizon d) && not (granted_by k t j)
  is_certain k (violation.Visit t j) = (k == horizon d) && not (visited_by k t j)

  -- the ways in which a plan may fail on its run, in the order in which they are named
  abbrev pub possible_violations : List Violation
  possible_violations = map violation.Within (one_to (length d.withins)) ++ map violation.Order (one_to (length d.orders))
      ++ flat_map (λ t. map (violation.Grant t) (command_numbers t)) (trains d)
      ++ flat_map (λ t. map (violation.Visit t) (visit_numbers d t)) (trains d)

  -- the visits that a path doesn't make, by train and number
  abbrev pub path_failures : List Violation
  path_failures = flat_map (λ t. map (violation.Path t) (visit_numbers d t)) (trains d)

  -- the first way in which the plan fails at tick k
  abbrev pub violation_at : ℕ → Option Violation
  violation_at k = find (is_certain k) possible_violations

  -- the first visit that no path makes
  abbrev pub path_violation : Option Violation
  path_violation = find (is_certain 1) path_failures

  -- at tick k the plan fails, or all is done
  abbrev pub is_decided : ℕ → Bool
  is_decided k = is_some (violation_at k) || is_done k

  -- the deciding tick
  abbrev pub cost : ℕ
  cost = if is_some path_violation then 1 else unwrap_or (least is_decided (horizon d)) (horizon d)
