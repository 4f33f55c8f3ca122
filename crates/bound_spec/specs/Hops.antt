-- What the laws say of the ticks between events.
use Rattle.std.specs.Prelude.{◌≡◌, ℕ, ◌+◌, ◌-◌, ◌≤◌, ◌<◌, List, ◌++◌, length, sum_by}
use Rattle.rail_base.specs.declared.station.Station.{Station}
use Rattle.rail_base.specs.declared.station.SectionNo.{SectionNo}
use Rattle.rail_base.specs.declared.station.TrainNo.{TrainNo}
use Rattle.rail_base.specs.declared.route.Route.{Route}
use Rattle.rail_base.specs.declared.plan.Command.{Command}
use Rattle.rail_base.specs.Members.{In}
use Rattle.rail_base.specs.Stations.{train_length}
use Rattle.rail_base.specs.declared.state.TrainEvent.{TrainEvent}
use Rattle.rail_spec.specs.Track.{routes_of}
use Rattle.rail_spec.specs.Plans.{route_at, own_shared, release_offset, preceding, length_mm, path, path_routes}
use Rattle.rail_spec.specs.Dispatches.{of_plan, routes_before}
use Rattle.rail_laws.specs.Plans.{InEveryRun}
use Rattle.free_spec.specs.Legs.{Leg, least_ticks, least_ticks_waited}
use Rattle.bound_spec.specs.Events.{Takes, granting, heading, reaching, HopTakes}
use Rattle.bound_spec.specs.Walks.{walks, least_walk, LieIn}
use Rattle.bound_spec.specs.Rides.{Ride, chain_ticks, chain_ticks_from, wait_ticks, Rides, granted_first, walk_of, passes}
use Rattle.bound_spec.specs.Rides.{first_target, Chained, arrives, waits_out}

module _ (d : Station) (plan : List (List Command)) (t : TrainNo) (before : List Route) (l : Leg) where
  -- from the grant of the leg's first command to a place on it, with more commands granted
  abbrev pub RunTakesLeast : Type 0
  RunTakesLeast = length before < length (path plan t) → (h y j : ℕ) → length before < j
      → let there = reaching t j (sum_by length_mm before + y) in
      HopTakes d (routes_of d) plan (granting t (length before + 1)) there (least_ticks_waited d t l h 0 y - 1)

  -- from one place of the leg to another
  abbrev pub WalkTakesLeast : Type 0
  WalkTakesLeast = (h x y : ℕ) → x ≤ y → let at : ℕ → TrainEvent = λ x. heading t (sum_by length_mm before + x) in
      HopTakes d (routes_of d) plan (at x) (at y) (least_ticks d t l h (x - 1) y - 1)

-- a command comes at least a tick after the one before it has released an own section that the two share
abbrev pub WaitTakesTick : Station → List Route → List (List Command) → Type 0
WaitTakesTick d routes plan = (e c : Command) (z : SectionNo) → In e (preceding routes plan c)
    → In z (own_shared (route_at routes e.route) (route_at routes c.route))
    → let before = routes_before d routes (of_plan routes plan) in let r = route_at routes e.route in
    (x : ℕ) → x ≤ sum_by length_mm (before e) + release_offset r z + train_length d e.train
    → let release = reaching e.train (length (before e) + 1) x in
    HopTakes d routes plan release (granting c.train (length (before c) + 1)) 1

-- what two hops in a row take adds up
abbrev pub HopsAddUp : Station → List Route → List (List Command) → Type 0
HopsAddUp d routes plan = (e f g : TrainEvent) (a b k : ℕ) → HopTakes d routes plan e f a → Takes d routes plan f g b k
    → Takes d routes plan e g (a + b) k

-- from one grant of a train to a later one it takes a tick each
abbrev pub GrantTakesTick : Station → List (List Command) → Type 0
GrantTakesTick d plan = (t : TrainNo) (i j : ℕ) → i ≤ j
    → HopTakes d (routes_of d) plan (granting t i) (granting t j) (j - i)

-- what takes so many ticks takes fewer
abbrev pub TakesFewer : Station → List (List Command) → Type 0
TakesFewer d plan = (e f : TrainEvent) (a b k : ℕ) → a ≤ b
    → Takes d (routes_of d) plan e f b k → Takes d (routes_of d) plan e f a k

-- the least over all walks by these places is at most what the walk in the path takes
abbrev pub TakesLeastOfWalks : Station → List (List Command) → Type 0
TakesLeastOfWalks d plan = (t : TrainNo) (before rs more : List Route)
    → path_routes (routes_of d) plan t ≡ before ++ (rs ++ more) → (places : List (List Route)) → LieIn rs places
    → (f : List Route → ℕ) (h c : ℕ) → f rs ≤ c → least_walk f h (walks places) ≤ c

-- ---- chains of rides

-- a chain of rides in a plan
abbrev pub ChainWord : Type 1
ChainWord = (d : Station) (routes : List Route) (plan : List (List Command)) (r : Ride) (i : Rides d routes plan r)
    (ss : List Ride) → Chained d routes plan r i ss → Type 0

-- it is so of every chain of rides in every run
abbrev pub OnEachChain : ChainWord → Type 0
OnEachChain Is = InEveryRun (λ d plan. let routes = routes_of d in
    (r : Ride) (i : Rides d routes plan r) (ss : List Ride) (c : Chained d routes plan r i ss) → Is d routes plan r i ss c)

-- from the grant of the first command to where the last ride arrives
abbrev pub ChainTakesTicks : ChainWord
ChainTakesTicks d routes plan r i ss c = (h : ℕ) (target : List Route → ℕ)
    → let arriving = arrives d routes plan r i ss c target in
    HopTakes d routes plan (granted_first d routes plan r i) arriving (chain_ticks d routes h r ss target)

-- from there to the grant of the last ride's first command
abbrev pub ChainWaitsTicks : ChainWord
ChainWaitsTicks d routes plan r i ss c = (h : ℕ) → let waiting = waits_out d routes plan r i ss c in
    HopTakes d routes plan (granted_first d routes plan r i) waiting (wait_ticks d routes h r ss)

-- from where the first ride passes a place to where the last one arrives
abbrev pub ChainTakesTicksFrom : ChainWord
ChainTakesTicksFrom d routes plan r i ss c = (h : ℕ) (from target : List Route → ℕ)
    → from (walk_of d routes plan r i) ≤ first_target d routes plan r i ss c target
    → let passing = passes d routes plan r i (from (walk_of d routes plan r i)) in
    let arriving = arrives d routes plan r i ss c target in
    HopTakes d routes plan passing arriving (chain_ticks_from d routes h from r ss target)
