-- What laws over all runs speak of.
use Rattle.std.specs.Prelude.{ℕ, suc, ◌+◌, ◌-◌, ◌≤◌, ◌<◌, Bool, false, List, length, sum_by, take}
use Rattle.rail_base.specs.declared.station.Station.{Station}
use Rattle.rail_base.specs.declared.station.TrainNo.{TrainNo}
use Rattle.rail_base.specs.declared.plan.Command.{Command}
use Rattle.rail_spec.specs.Track.{routes_of}
use Rattle.rail_spec.specs.Dispatches.{state_of, of_plan, state_at}
use Rattle.rail_spec.specs.Plans.{length_mm, path, path_routes}
use Rattle.rail_base.specs.Stations.{IsTrain}
use Rattle.rail_laws.specs.Plans.{InEveryRun}
use Rattle.free_spec.specs.Legs.{Leg, HasLeg, free_on, least_ticks, least_ticks_waited, least_whatever_follows}
use Rattle.rail_base.specs.declared.route.Route.{Route}

-- where a train's head is at the end of a tick, in mm from the start of its path
abbrev pub head_of : Station → List (List Command) → TrainNo → ℕ → ℕ
head_of d plan t k = (state_of (state_at d (routes_of d) (of_plan (routes_of d) plan) k) t).x

-- and how many commands it has been granted by then
abbrev pub granted_of : Station → List (List Command) → TrainNo → ℕ → ℕ
granted_of d plan t k = (state_of (state_at d (routes_of d) (of_plan (routes_of d) plan) k) t).granted

-- it is so of every leg of every train's path in every run, behind the routes before it
abbrev pub OnEachLeg : (Station → List (List Command) → TrainNo → List Route → Leg → Type 0) → Type 0
OnEachLeg Is = InEveryRun (λ d plan.
    (t : TrainNo) (before : List Route) (l : Leg) → HasLeg (routes_of d) plan t before l → Is d plan t before l)

module _ (d : Station) (plan : List (List Command)) (t : TrainNo) (before : List Route) (l : Leg) where
  -- in a tick the head goes no farther than a free move from where it was
  abbrev pub MovesAreFree : Type 0
  MovesAreFree = let start = sum_by length_mm before in (k x : ℕ) → head_of d plan t k ≤ start + x
      → head_of d plan t (suc k) ≤ start + (x + free_on d t l x)

  -- from one place of the leg to another it takes at least its least ticks
  abbrev pub TakesLeastTicks : Type 0
  TakesLeastTicks = let start = sum_by length_mm before in (h k c x y : ℕ) → head_of d plan t k ≤ start + x
      → start + y ≤ head_of d plan t (k + c) → least_ticks d t l h x y ≤ c

  -- so does a train that is granted fewer than j commands and whose first j - 1 routes end by the first place, as one that waits there
  abbrev pub TakesLeastTicksWaited : Type 0
  TakesLeastTicksWaited = IsTrain d t → let start = sum_by length_mm before in (j k x y : ℕ) → j ≤ length (path plan t)
      → granted_of d plan t k < j → sum_by length_mm (take (j - 1) (path_routes (routes_of d) plan t)) ≤ start + x
      → (h c : ℕ) → start + y ≤ head_of d plan t (k + c) → least_ticks_waited d t l h x y ≤ c

-- what is at most a number on every leg with these routes is so, whatever follows them
abbrev pub TakesLeastOfWhatFollows : Station → List (List Command) → Type 0
TakesLeastOfWhatFollows d plan = (t : TrainNo) (before rs : List Route) (rest : Bool)
    → HasLeg (routes_of d) plan t before (record { routes = rs; closed = false; rest = rest }) → (f : Leg → ℕ) (c : ℕ)
    → ((l : Leg) → HasLeg (routes_of d) plan t before l → f l ≤ c) → least_whatever_follows f (routes_of d) rs rest ≤ c
