-- What the base of normal plans says of all plans.
use Rattle.std.specs.Prelude.{◌≡◌, ℕ, ◌≤◌, Bool, true, List, ◌++◌}
use Rattle.std.specs.List.{list_all}
use Rattle.rail_base.specs.declared.station.Station.{Station}
use Rattle.rail_base.specs.declared.plan.Command.{Command}
use Rattle.rail_base.specs.Admitted.{IsAdmitted}
use Rattle.rail_base.specs.Members.{In}
use Rattle.rail_spec.specs.Track.{routes_of}
use Rattle.rail_spec.specs.Feasible.{IsFeasible, IsInfeasible}
use Rattle.rail_plan.specs.Normal.{IsNormal}
use Rattle.sat_clause.specs.declared.lit.Lit.{Lit}
use Rattle.sat_clause.specs.Clauses.{clause_holds}
use Rattle.clause_spec.specs.Variables.{By, number_of, variable_count}
use Rattle.clause_spec.specs.Models.{model_of}
use Rattle.normal_clause_spec.specs.Clauses.{normal_base}
use Rattle.normal_clause_spec.specs.Models.{normal_model_of}
use Rattle.normal_clause_spec.specs.Laws.{HasNormalModel}

-- a normal plan that is feasible for n steps, all given by step k, whose model makes the base of normal plans true
pub record HasNormalModelBy (d : Station) (n k : ℕ) : Type 0 where
  pub plan : List (List Command)
  pub feasible : IsFeasible d n plan
  pub normal : IsNormal d (routes_of d) plan
  pub holds : HasNormalModel d (routes_of d) n plan
  pub by : normal_model_of d (routes_of d) n plan (number_of d (routes_of d) n (By k)) ≡ true

-- where a plan of k steps is feasible, there is such a one
abbrev pub FeasibleHaveNormalModels : Station → ℕ → ℕ → Type 0
FeasibleHaveNormalModels d n k = IsAdmitted d → (plan : List (List Command)) → IsFeasible d k plan
    → HasNormalModelBy d n k

-- these clauses are over the variables of the base
abbrev pub AreOverBase : Station → ℕ → List (List Lit) → Type 0
AreOverBase d n more = (c : List Lit) → In c more → (l : Lit) → In l c
    → l.var ≤ variable_count d (routes_of d) n

-- the model of each feasible plan makes them true
abbrev pub AreSound : Station → ℕ → List (List Lit) → Type 0
AreSound d n more = (plan : List (List Command)) → IsFeasible d n plan
    → list_all (clause_holds (model_of d (routes_of d) n plan)) more ≡ true

-- no values that make the base of normal plans and these clauses true say that all is given by step k
abbrev pub NoneNormalBy : Station → ℕ → ℕ → List (List Lit) → Type 0
NoneNormalBy d n k more = (values : ℕ → Bool)
    → list_all (clause_holds values) (normal_base d (routes_of d) n ++ more) ≡ true
    → values (number_of d (routes_of d) n (By k)) ≡ true → ⊥

-- where none do, for clauses over the base that hold of all feasible plans, no plan of k steps is feasible
abbrev pub NoneNormalIsInfeasible : Station → ℕ → ℕ → Type 0
NoneNormalIsInfeasible d n k = IsAdmitted d → (more : List (List Lit)) → AreOverBase d n more → AreSound d n more
    → NoneNormalBy d n k more → IsInfeasible d k
