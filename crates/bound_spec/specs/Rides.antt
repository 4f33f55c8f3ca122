-- Chains of rides: legs of trains of which only the places are known, each of which waits for the one before.
use Rattle.std.specs.Prelude.{◌≡◌, ℕ, ◌+◌, ◌-◌, min, max, List, [], ◌∷◌, ◌++◌, map, length, sum_by}
use Rattle.rail_base.specs.declared.station.Station.{Station}
use Rattle.rail_base.specs.declared.station.SectionNo.{SectionNo}
use Rattle.rail_base.specs.declared.station.TrainNo.{TrainNo}
use Rattle.rail_base.specs.declared.route.Route.{Route}
use Rattle.rail_base.specs.declared.route.RouteNo.{RouteNo}
use Rattle.rail_base.specs.declared.plan.Command.{Command}
use Rattle.rail_base.specs.Members.{In}
use Rattle.rail_base.specs.Stations.{train_length}
use Rattle.rail_base.specs.declared.state.TrainEvent.{TrainEvent}
use Rattle.rail_spec.specs.Plans.{route_at, length_mm, own_shared, release_offset, path, preceding}
use Rattle.cone_spec.specs.Validity.{from_boundary}
use Rattle.free_spec.specs.Legs.{least_ticks, least_ticks_waited, least_whatever_follows}
use Rattle.bound_spec.specs.Walks.{walks, least_walk, LieIn}

-- a train, and what its routes in a row can be
pub record Ride : Type 0 where
  pub train : TrainNo
  pub places : List (List Route)

-- the routes that can be the first
abbrev pub first_place : Ride → List Route
first_place r = first r.places
  where
    first : List (List Route) → List Route
    first [] = []
    first (place ∷ places) = place

-- the greatest of 0 and the numbers of these sections
abbrev pub greatest_of : (SectionNo → ℕ) → List SectionNo → ℕ
greatest_of f [] = 0
greatest_of f (z ∷ zs) = max (f z) (greatest_of f zs)

-- the place on a walk, from its start, at which its last route has released all own sections that it shares with another
abbrev pub release_place : Station → TrainNo → List Route → Route → ℕ
release_place d t [] q = 0
release_place d t (r ∷ []) q = greatest_of (release_offset r) (own_shared r q) + train_length d t
release_place d t (r ∷ s ∷ rs) q = length_mm r + release_place d t (s ∷ rs) q

-- the least of n and of what these routes give
abbrev pub least_route : (Route → ℕ) → ℕ → List Route → ℕ
least_route f n [] = n
least_route f n (q ∷ qs) = min (f q) (least_route f n qs)

module _ (d : Station) (routes : List Route) (h : ℕ) where
  -- the least ticks from the grant of a walk's first route to a place, or h where it takes more
  abbrev pub run_ticks : TrainNo → List Route → ℕ → ℕ
  run_ticks t rs y =
      least_whatever_follows (λ l. least_ticks_waited d t l h 0 y) routes rs (from_boundary rs) - 1

  -- the least ticks from one place of a walk to another, or h where it takes more
  abbrev pub on_ticks : TrainNo → List Route → ℕ → ℕ → ℕ
  on_ticks t rs x y = least_whatever_follows (λ l. least_ticks d t l h (x - 1) y) routes rs (from_boundary rs) - 1

  -- the least ticks of a ride over all its walks to a place
  abbrev pub ride_ticks : Ride → (List Route → ℕ) → ℕ
  ride_ticks r target = least_walk (λ rs. run_ticks r.train rs (target rs)) h (walks r.places)

  -- the least of what it takes to where a walk has released what the next ride waits for, over the routes that can be that one's first
  abbrev pub least_release : TrainNo → List Route → Ride → (ℕ → ℕ) → ℕ
  least_release t rs next ticks = least_route (λ q. ticks (release_place d t rs q)) h (first_place next)

  -- the least ticks to there over all walks of a ride
  abbrev pub release_ticks : Ride → Ride → ℕ
  release_ticks r s = least_walk (λ rs. least_release r.train rs s (run_ticks r.train rs)) h (walks r.places)

  -- the least ticks from the grant of the first ride's first route to a place on the last ride
  abbrev pub chain_ticks : Ride → List Ride → (List Route → ℕ) → ℕ
  chain_ticks r [] target = ride_ticks r target
  chain_ticks r (s ∷ ss) target = release_ticks r s + (1 + chain_ticks s ss target)

  -- the least ticks from the grant of the first ride's first route to that of the last ride's
  abbrev pub wait_ticks : Ride → List Ride → ℕ
  wait_ticks r [] = 0
  wait_ticks r (s ∷ ss) = release_ticks r s + (1 + wait_ticks s ss)

  -- the least ticks from a place on the first ride to a place on the last ride
  abbrev pub chain_ticks_from : (List Route → ℕ) → Ride → List Ride → (List Route → ℕ) → ℕ
  chain_ticks_from origin r [] target =
      least_walk (λ rs. on_ticks r.train rs (origin rs) (target rs)) h (walks r.places)
  chain_ticks_from origin r (s ∷ ss) target =
      least_walk (λ rs. least_release r.train rs s (on_ticks r.train rs (origin rs))) h (walks r.places)
      + (1 + chain_ticks s ss target)

module _ (d : Station) (routes : List Route) (plan : List (List Command)) where
  -- the train's path has such a walk
  pub record Rides (r : Ride) : Type 0 where
    pub before : List RouteNo
    pub prefix : List RouteNo
    pub last : RouteNo
    pub more : List RouteNo
    pub whole : path plan r.train ≡ before ++ (prefix ++ last ∷ more)
    pub lies : LieIn (map (route_at routes) (prefix ++ last ∷ [])) r.places

  -- its routes
  abbrev pub walk_of : (r : Ride) → Rides r → List Route
  walk_of r i = map (route_at routes) (i.prefix ++ i.last ∷ [])

  -- the first of these
  abbrev pub first_of : List RouteNo → RouteNo → RouteNo
  first_of [] last = last
  first_of (p ∷ ps) last = p

  abbrev pub first_command : (r : Ride) → Rides r → Command
  first_command r i = record { train = r.train; route = first_of i.prefix i.last }

  abbrev pub last_command : (r : Ride) → Rides r → Command
  last_command r i = record { train = r.train; route = i.last }

  -- that the first command is granted
  abbrev pub granted_first : (r : Ride) → Rides r → TrainEvent
  granted_first r i = record { train = r.train; event = record { granted = length i.before + 1; place = 0 }; ticks = 0 }

  -- that the head is so far on the walk, with all its commands granted
  abbrev pub reaches : (r : Ride) → Rides r → ℕ → TrainEvent
  reaches r i y = record {
    train = r.train;
    event = record { granted = length i.before + length i.prefix + 1; place = sum_by length_mm (map (route_at routes) i.before) + y };
    ticks = 0;
  }

  -- rides of which each one's first command waits for the last of the one before
  abbrev pub Chained : (r : Ride) → Rides r → List Ride → Type 0
  Chained r i [] = Unit {0}
  Chained r i (s ∷ ss) = (j : Rides s) × In (last_command r i) (preceding routes plan (first_command s j))
      × ((z : SectionNo) × In z (own_shared (route_at routes i.last) (route_at routes (first_of j.prefix j.last))))
      × Chained s j ss

  -- that the head of the last is at the place
  abbrev pub arrives : (r : Ride) (i : Rides r) (ss : List Ride) → Chained r i ss → (List Route → ℕ) → TrainEvent
  arrives r i [] c target = reaches r i (target (walk_of r i))
  arrives r i (s ∷ ss) c target = arrives s c.0 ss c.3 target

  -- that the last ride's first command is granted
  abbrev pub waits_out : (r : Ride) (i : Rides r) (ss : List Ride) → Chained r i ss → TrainEvent
  waits_out r i [] c = granted_first r i
  waits_out r i (s ∷ ss) c = waits_out s c.0 ss c.3

  -- that the first command is granted and the head so far on the walk
  abbrev pub passes : (r : Ride) → Rides r → ℕ → TrainEvent
  passes r i x = record {
    train = r.train;
    event = record { granted = length i.before + 1; place = sum_by length_mm (map (route_at routes) i.before) + x };
    ticks = 0;
  }

  -- the place to which the first ride goes: where it has released what the next waits for, or the last place
  abbrev pub first_target : (r : Ride) (i : Rides r) (ss : List Ride) → Chained r i ss → (List Route → ℕ) → ℕ
  first_target r i [] c target = target (walk_of r i)
  first_target r i (s ∷ ss) c target =
      release_place d r.train (walk_of r i) (route_at routes (first_of c.0.prefix c.0.last))
