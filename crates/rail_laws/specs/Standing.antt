-- What the laws say of trains that stand at their visits.
use Rattle.std.specs.Prelude.{◌≡◌, ℕ, suc, ◌+◌, ◌-◌, ◌≤◌, ◌<◌, min, true, false, List, flat_map, length, map, take}
use Rattle.std.specs.Prelude.{ℤ, nat_abs, Option, None, Some, sum_by}
use Rattle.std.specs.List.{list_any, sum}
use Rattle.rail_base.specs.declared.station.Station.{Station}
use Rattle.rail_base.specs.declared.station.NodeNo.{NodeNo}
use Rattle.rail_base.specs.declared.station.TrainNo.{TrainNo}
use Rattle.rail_base.specs.declared.route.Route.{Route}
use Rattle.rail_base.specs.declared.route.RouteNo.{RouteNo}
use Rattle.rail_base.specs.declared.state.PathNode.{PathNode}
use Rattle.rail_base.specs.declared.state.TrainState.{TrainState}
use Rattle.rail_base.specs.Members.{In, Pairs}
use Rattle.rail_base.specs.Numbering.{entry}
use Rattle.rail_base.specs.Stations.{IsTrain, length_of, dwell_ticks}
use Rattle.rail_spec.specs.Plans.{route_at, length_mm, exits}
use Rattle.rail_spec.specs.Motion.{may_stop}
use Rattle.rail_spec.specs.Places.{next_stop}
use Rattle.rail_spec.specs.Dispatches.{Dispatch, state_of, rates, with_granted, stop_place, authority, stands, state_at}
use Rattle.rail_spec.specs.Visits.{visits_of_train}
use Rattle.rail_spec.specs.Histories.{dwell_up_to}

-- ---- ends of authority

-- the second is as far as the first or farther
abbrev pub IsAsFar : Option ℕ → Option ℕ → Type 0
IsAsFar (Some e) (Some f) = e ≤ f
IsAsFar None (Some f) = ⊥
IsAsFar (Some e) None = Unit {0}
IsAsFar None None = Unit {0}

-- ---- the ticks stood at each visit

-- of so many ticks stood in all, those at the visit of this number, by the ticks to stand at each: what is left by the
-- visits before it, and no more than its own
abbrev pub stood_at : List ℕ → ℕ → ℕ → ℕ
stood_at ws stood j = min (entry 0 ws j) (stood - sum (take (j - 1) ws))

-- the visit of this number is the first at which the train has not stood all its ticks
pub record IsFirstUnstood (ws : List ℕ) (stood j : ℕ) : Type 0 where
  pub low : 1 ≤ j
  pub high : j ≤ length ws
  pub unstood : stood_at ws stood j < entry 0 ws j
  pub before : (i : ℕ) → 1 ≤ i → i < j → stood_at ws stood i ≡ entry 0 ws i

-- a train has still to stand at the first visit at which it has not stood all its ticks, or else nowhere
abbrev pub StandsInOrder : List ℕ → List (Option PathNode) → ℕ → Type 0
StandsInOrder ws places stood =
    ((j : ℕ) → IsFirstUnstood ws stood j → next_stop ws places stood ≡ entry None places j)
    × (((j : ℕ) → 1 ≤ j → j ≤ length ws → stood_at ws stood j ≡ entry 0 ws j) → next_stop ws places stood ≡ None)

-- ---- runs under any dispatch

-- the nodes of a route stand in order of their offsets
abbrev pub NodesRise : Route → Type 0
NodesRise r = Pairs (λ (a b : NodeNo × ℤ). nat_abs a.1 ≤ nat_abs b.1) r.nodes

module _ (d : Station) (routes : List Route) (p : Dispatch) where
  -- the first so many routes of a train's path
  abbrev pub given : TrainNo → ℕ → List Route
  given t g = take g (map (route_at routes) (p.path t))

  -- trains can brake, routes are as long as their edges with their nodes on them in order, and none is behind an exit
  pub record IsOrderly : Type 0 where
    pub slows : (i : ℕ) → i < length d.trains → 1 ≤ (rates d (record { 0 = suc i })).brake
    pub whole : (t : TrainNo) (g : ℕ)
        → sum_by (length_of d) (flat_map (λ r. r.edges) (given t g)) ≡ sum_by length_mm (given t g)
    pub exit_last : (t : TrainNo) (g : ℕ) → IsTrain d t → list_any exits (given t g) ≡ true
        → length (map (route_at routes) (p.path t)) ≤ g
    pub nodes_in : (r : RouteNo) (n : NodeNo × ℤ) → In n (route_at routes r).nodes
        → nat_abs n.1 ≤ length_mm (route_at routes r)
    pub nodes_rise : (r : RouteNo) → NodesRise (route_at routes r)

  -- a train's state after so many ticks
  abbrev pub after : ℕ → TrainNo → TrainState
  after k t = state_of (state_at d routes p k) t

  -- what the train of a tick sees when it begins: its old state, with the routes granted in the tick
  abbrev pub seen : ℕ → TrainNo → TrainState
  seen k t = with_granted (after (suc k) t).granted (after k t)

  -- a train whose head is at its place when a tick begins stands there for the tick, and another stands no tick more
  pub record StandsAtItsPlace (k : ℕ) (t : TrainNo) : Type 0 where
    pub stays : stands d routes p t (seen k t) ≡ true → (after (suc k) t).x ≡ (after k t).x
    pub at_rest : stands d routes p t (seen k t) ≡ true → (after (suc k) t).v ≡ 0
    pub one_more : stands d routes p t (seen k t) ≡ true → (after (suc k) t).stood ≡ (after k t).stood + 1
    pub else_none : stands d routes p t (seen k t) ≡ false → (after (suc k) t).stood ≡ (after k t).stood

  -- its head isn't past its place
  abbrev pub WaitsAtItsPlace : ℕ → TrainNo → Type 0
  WaitsAtItsPlace k t = may_stop (stop_place d routes p t (after k t)) (after k t).x ≡ true

  -- it isn't past where its path makes a visit before it has stood its ticks at that visit and at those before, and
  -- each tick that it stands for that visit it stands exactly there
  pub record StandsAtVisit (k : ℕ) (t : TrainNo) (j : ℕ) (n : PathNode) : Type 0 where
    pub not_past : (after k t).stood < dwell_up_to d t j → (after k t).x ≤ n.event.place
    pub there : dwell_up_to d t (j - 1) ≤ (after k t).stood → (after k t).stood < dwell_up_to d t j
        → (after k t).stood < (after (suc k) t).stood
        → ((after k t).x ≡ n.event.place) × ((after (suc k) t).x ≡ n.event.place)

  -- how long it has stood never falls, and is never more than it has to stand in all, nor than the ticks so far
  pub record StandsNoLonger (k : ℕ) (t : TrainNo) : Type 0 where
    pub grows : (after k t).stood ≤ (after (suc k) t).stood
    pub most : (after k t).stood ≤ sum (dwell_ticks d t)
    pub ticks : (after k t).stood ≤ k

  -- its authority never falls back
  abbrev pub AuthorityGrows : ℕ → TrainNo → Type 0
  AuthorityGrows k t = IsAsFar (authority d routes p t (after k t)) (authority d routes p t (after (suc k) t))

-- ---- the laws

-- it is so of every run, whatever says which command waits for which
abbrev pub EachDispatch : (Station → List Route → Dispatch → Type 0) → Type 0
EachDispatch Is = (d : Station) (routes : List Route) (p : Dispatch) → Is d routes p

-- so it is with each train of the design in each tick that concerns it
abbrev pub TrainsStand : Station → List Route → Dispatch → Type 0
TrainsStand d routes p = (k : ℕ) (t : TrainNo) → IsTrain d t → p.concerns (suc k) t ≡ true
    → StandsAtItsPlace d routes p k t

-- so it is at each tick
abbrev pub TrainsStandNoLonger : Station → List Route → Dispatch → Type 0
TrainsStandNoLonger d routes p = (k : ℕ) (t : TrainNo) → StandsNoLonger d routes p k t

-- so it is at each tick of an orderly run
abbrev pub TrainsWait : Station → List Route → Dispatch → Type 0
TrainsWait d routes p = IsOrderly d routes p → (k : ℕ) (t : TrainNo) → WaitsAtItsPlace d routes p k t

-- so it is with each visit that the path of a train makes
abbrev pub TrainsStandAtVisits : Station → List Route → Dispatch → Type 0
TrainsStandAtVisits d routes p = IsOrderly d routes p → (k : ℕ) (t : TrainNo) → IsTrain d t
    → (j : ℕ) (n : PathNode) → entry None (visits_of_train d routes p t) j ≡ Some n → StandsAtVisit d routes p k t j n

-- so it is from each tick of an orderly run to the next
abbrev pub AuthorityNeverFalls : Station → List Route → Dispatch → Type 0
AuthorityNeverFalls d routes p = IsOrderly d routes p → (k : ℕ) (t : TrainNo) → AuthorityGrows d routes p k t
