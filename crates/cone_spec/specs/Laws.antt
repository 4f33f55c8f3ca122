-- What the laws of cones speak of.
use Rattle.std.specs.Prelude.{◌≡◌, ℕ, true, List, ◌++◌, ◌≤◌, false}
use Rattle.rail_base.specs.declared.station.Station.{Station}
use Rattle.rail_base.specs.declared.route.Route.{Route}
use Rattle.rail_base.specs.declared.plan.Command.{Command}
use Rattle.rail_spec.specs.Feasible.{IsWellFormed}
use Rattle.cone_spec.specs.declared.Cone.{Cone}
use Rattle.cone_spec.specs.Validity.{in_design, is_valid_cone}
use Rattle.cone_spec.specs.Clauses.{clause_of_cone, is_false_of}
use Rattle.rail_base.specs.declared.station.TrainNo.{TrainNo}
use Rattle.rail_base.specs.Stations.{horizon}
use Rattle.rail_spec.specs.Plans.{path}
use Rattle.rail_spec.specs.Track.{routes_of}
use Rattle.rail_spec.specs.Dispatches.{state_of, of_plan, state_at}
use Rattle.rail_spec.specs.Requirements.{is_certain}
use Rattle.rail_base.specs.declared.plan.Violation.TheVariants as violation
use Rattle.cone_spec.specs.Cones.{named, of_cone, cone_state_at}
use Rattle.rail_laws.specs.Standing.{IsOrderly}

-- the cone is valid, and each literal of its clause is false of the plan, which is well formed
pub record Refutes (d : Station) (routes : List Route) (n : ℕ) (k : Cone) (plan : List (List Command)) : Type 0 where
  pub well_formed : IsWellFormed d routes n plan
  pub valid : is_valid_cone d routes k ≡ true
  pub denies : is_false_of plan (clause_of_cone d routes k) ≡ true

-- a list is the prefix of another
pub record Begins {X : Type 0} (xs ys : List X) : Type 0 where
  pub rest : List X
  pub whole : ys ≡ xs ++ rest

-- it is so of every cone that refutes a plan, and of that plan
abbrev pub EachRefuted : (Station → List Route → Cone → List (List Command) → Type 0) → Type 0
EachRefuted Is = (d : Station) (routes : List Route) (n : ℕ) (k : Cone) (plan : List (List Command))
    → Refutes d routes n k plan → Is d routes k plan

-- up to its horizon each train of the plan is as in the cone, with no more commands granted than are free
abbrev pub FollowsCone : Station → List Route → Cone → List (List Command) → Type 0
FollowsCone d routes k plan = (tick : ℕ) (t : TrainNo) → tick ≤ (named k t).horizon
    → (state_of (state_at d routes (of_plan routes plan) tick) t ≡ cone_state_at d routes k tick t)
    × ((state_of (state_at d routes (of_plan routes plan) tick) t).granted ≤ (named k t).free)

-- where the cone is of a missed visit, the train's path is the cone's
abbrev pub NamesWholePath : Station → List Route → Cone → List (List Command) → Type 0
NamesWholePath d routes k plan = (t : TrainNo) (j : ℕ) → k.violation ≡ violation.Path t j → path plan t ≡ (named k t).path

-- at a tick by the horizon the plan is certain to break what the cone says
abbrev pub BreaksInTime : Station → List Route → Cone → List (List Command) → Type 0
BreaksInTime d routes k plan = (tick : ℕ) × (tick ≤ horizon d) × (is_certain d routes plan tick k.violation ≡ true)

-- past its horizon each train of the cone stays as it is, stopped or not
abbrev pub StaysPastHorizon : Station → List Route → Cone → Type 0
StaysPastHorizon d routes k = (tick : ℕ) (t : TrainNo) → (named k t).horizon ≤ tick
    → cone_state_at d routes k tick t ≡ cone_state_at d routes k (named k t).horizon t

-- the run of each cone of the design is orderly
abbrev pub ConesAreOrderly : Station → Type 0
ConesAreOrderly d = (k : Cone) → in_design d (routes_of d) k ≡ true → IsOrderly d (routes_of d) (of_cone k)

-- of the clause of each valid cone a literal is true of the plan
abbrev pub ValidConesHold : Station → ℕ → List (List Command) → Type 0
ValidConesHold d n plan = (k : Cone) → is_valid_cone d (routes_of d) k ≡ true
    → is_false_of plan (clause_of_cone d (routes_of d) k) ≡ false
