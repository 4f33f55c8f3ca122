-- What the laws say of plans that fail on time.
use Rattle.std.specs.Prelude.{◌≡◌, ℕ, ◌≤◌, min, true, List, length, None, Some, is_none}
use Rattle.rail_base.specs.declared.station.Station.{Station}
use Rattle.rail_base.specs.declared.station.TrainNo.{TrainNo}
use Rattle.rail_base.specs.declared.route.Route.{Route}
use Rattle.rail_base.specs.declared.plan.Command.{Command}
use Rattle.rail_base.specs.declared.plan.Violation.{Violation}
use Rattle.rail_base.specs.Admission.{is_visit}
use Rattle.rail_base.specs.Admitted.{IsAdmitted}
use Rattle.rail_base.specs.Numbering.{entry}
use Rattle.rail_base.specs.Stations.{IsTrain, horizon}
use Rattle.rail_spec.specs.Feasible.{IsWellFormed}
use Rattle.rail_spec.specs.Plans.{path}
use Rattle.rail_spec.specs.Requirements.{is_certain, violation_at}
use Rattle.rail_spec.specs.Dispatches.{of_plan}
use Rattle.rail_spec.specs.Visits.{visits_of_train}
use Rattle.cone_spec.specs.declared.Cone.{Cone}
use Rattle.cone_spec.specs.Laws.{Refutes}
use Rattle.slice_spec.specs.Holders.{GivesEach, IsClosedFamily}
use Rattle.slice_spec.specs.Leasts.{HasLeast, IsLeast, IsSliceOf}
use Rattle.slice_spec.specs.Slices.{slice_of, path_cone}

-- it is so of every well-formed plan of an admitted design that gives each train a command and fails at a tick by the horizon
abbrev pub EachFailure : (Station → List Route → ℕ → List (List Command) → ℕ → Violation → Type 0) → Type 0
EachFailure Is = (d : Station) → IsAdmitted d → (routes : List Route) (n : ℕ) (plan : List (List Command))
    → IsWellFormed d routes n plan → GivesEach d plan → (last : ℕ) (v : Violation) → last ≤ horizon d
    → violation_at d routes plan last ≡ Some v → Is d routes n plan last v

-- of every plan, up to every tick, with every violation
abbrev pub EachViolation : (Station → List Route → List (List Command) → ℕ → Violation → Type 0) → Type 0
EachViolation Is = (d : Station) (routes : List Route) (plan : List (List Command)) (last : ℕ) (v : Violation)
    → Is d routes plan last v

-- a train that has a path, and misses a visit on it, gives a cone that refutes the plan
abbrev pub PathConesRefute : Station → List Route → ℕ → List (List Command) → Type 0
PathConesRefute d routes n plan = (t : TrainNo) (j : ℕ) → 1 ≤ length (path plan t) → is_visit d t j ≡ true
    → is_none (entry None (visits_of_train d routes (of_plan routes plan) t) j) ≡ true
    → Refutes d routes n (path_cone plan t j) plan

module _ (d : Station) (routes : List Route) (n : ℕ) (plan : List (List Command)) (last : ℕ) (v : Violation) where
  -- the slice by every closed family of horizons refutes the plan
  abbrev pub ClosedSlicesRefute : Type 0
  ClosedSlicesRefute = (h : TrainNo → ℕ) → IsClosedFamily d routes plan last h v
      → Refutes d routes n (slice_of d routes plan last h v) plan

  -- so does the least slice
  abbrev pub LeastSlicesRefute : Type 0
  LeastSlicesRefute = (k : Cone) → HasLeast d routes plan last v k → Refutes d routes n k plan

module _ (d : Station) (routes : List Route) (plan : List (List Command)) (last : ℕ) (v : Violation) where
  -- where the violation is certain at the last tick, that is a closed horizon of all trains
  abbrev pub LastTickIsClosed : Type 0
  LastTickIsClosed = is_certain d routes plan last v ≡ true → IsClosedFamily d routes plan last (λ t. last) v

  -- the lower horizons of two closed families are one
  abbrev pub LowerIsClosed : Type 0
  LowerIsClosed = (g h : TrainNo → ℕ) → IsClosedFamily d routes plan last g v → IsClosedFamily d routes plan last h v
      → IsClosedFamily d routes plan last (λ t. min (g t) (h t)) v

  -- the least horizons of each train are one
  abbrev pub LeastIsOne : Type 0
  LeastIsOne = (g h : TrainNo → ℕ) → IsLeast d routes plan last v g → IsLeast d routes plan last v h
      → (t : TrainNo) → IsTrain d t → g t ≡ h t

  -- there is one slice
  abbrev pub SliceIsOne : Type 0
  SliceIsOne = (j k : Cone) → IsSliceOf d routes plan last v j → IsSliceOf d routes plan last v k → j ≡ k
