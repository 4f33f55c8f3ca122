-- The least of the closed families of horizons, and the slice of a failed plan, which has it.
use Rattle.std.specs.Prelude.{◌≡◌, ◌≤◌, ℕ, ◌-◌, List, [], ◌∷◌, Option, Some}
use Rattle.rail_base.specs.declared.station.Station.{Station}
use Rattle.rail_base.specs.declared.station.TrainNo.{TrainNo}
use Rattle.rail_base.specs.declared.route.Route.{Route}
use Rattle.rail_base.specs.declared.plan.Command.{Command}
use Rattle.rail_base.specs.declared.plan.Violation.{Violation}
use Rattle.rail_base.specs.declared.plan.Violation.TheVariants as violation
use Rattle.rail_base.specs.Stations.{IsTrain, within_of, order_of}
use Rattle.rail_spec.specs.Requirements.{most_ticks}
use Rattle.cone_spec.specs.declared.Cone.{Cone}
use Rattle.slice_spec.specs.Holders.{IsClosedFamily}
use Rattle.slice_spec.specs.Slices.{slice_of, path_cone}

module _ (d : Station) (routes : List Route) (plan : List (List Command)) (last : ℕ) (v : Violation) where
  -- the family is closed, and no closed one is lower for any train
  pub record IsLeast (h : TrainNo → ℕ) : Type 0 where
    pub closed : IsClosedFamily d routes plan last h v
    pub lowest : (g : TrainNo → ℕ) → IsClosedFamily d routes plan last g v → (t : TrainNo) → IsTrain d t → h t ≤ g t

  -- the cone is the slice with the least horizons
  pub record HasLeast (k : Cone) : Type 0 where
    pub horizons : TrainNo → ℕ
    pub least : IsLeast horizons
    pub is : k ≡ slice_of d routes plan last horizons v

-- the slice of a plan that fails in this way, which is certain at the last tick: the path alone where that misses a visit
abbrev pub IsSliceOf : Station → List Route → List (List Command) → ℕ → Violation → Cone → Type 0
IsSliceOf d routes plan last (violation.Path t j) k = k ≡ path_cone plan t j
IsSliceOf d routes plan last (violation.Within w) k = HasLeast d routes plan last (violation.Within w) k
IsSliceOf d routes plan last (violation.Order o) k = HasLeast d routes plan last (violation.Order o) k
IsSliceOf d routes plan last (violation.Grant t j) k = HasLeast d routes plan last (violation.Grant t j) k
IsSliceOf d routes plan last (violation.Visit t j) k = HasLeast d routes plan last (violation.Visit t j) k

-- to which ticks the trains that a violation speaks of are followed, where it is certain at the last tick
abbrev pub violation_horizons : Station → ℕ → Violation → List (TrainNo × Option ℕ)
violation_horizons d last (violation.Path t j) = []
violation_horizons d last (violation.Within w) =
    let within = within_of d w in
    (within.from_train, Some (last - most_ticks d within)) ∷ (within.to_train, Some last) ∷ []
violation_horizons d last (violation.Order o) =
    let order = order_of d o in
    (order.then_train, Some last) ∷ (order.first_train, Some (last - 1)) ∷ []
violation_horizons d last (violation.Grant t j) = (t, Some last) ∷ []
violation_horizons d last (violation.Visit t j) = (t, Some last) ∷ []
