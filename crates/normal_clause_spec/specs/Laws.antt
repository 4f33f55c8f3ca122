-- What the laws of the base of normal plans speak of.
use Rattle.std.specs.Prelude.{◌≡◌, ◌≢◌, ℕ, ◌≤◌, true, List}
use Rattle.std.specs.List.{list_all}
use Rattle.rail_base.specs.declared.station.Station.{Station}
use Rattle.rail_base.specs.declared.route.Route.{Route}
use Rattle.rail_base.specs.declared.plan.Command.{Command}
use Rattle.rail_base.specs.Members.{In}
use Rattle.rail_spec.specs.Track.{routes_of}
use Rattle.rail_spec.specs.Feasible.{IsFeasible, IsRunnable}
use Rattle.rail_plan.specs.Normal.{IsNormal}
use Rattle.sat_clause.specs.declared.lit.Lit.{Lit}
use Rattle.sat_clause.specs.Clauses.{clause_holds}
use Rattle.clause_spec.specs.Variables.{By, number_of, variable_count}
use Rattle.clause_spec.specs.Models.{model_of}
use Rattle.clause_spec.specs.Laws.{VisitsAll}
use Rattle.normal_clause_spec.specs.Variables.{normal_variable_count}
use Rattle.normal_clause_spec.specs.Clauses.{normal_base}
use Rattle.normal_clause_spec.specs.Models.{normal_model_of}

-- the model of the plan makes every clause true
abbrev pub HasNormalModel : Station → List Route → ℕ → List (List Command) → Type 0
HasNormalModel d routes n plan = list_all (clause_holds (normal_model_of d routes n plan)) (normal_base d routes n) ≡ true

-- that of every normal plan that can be carried out, and whose paths make all visits, does
abbrev pub NormalPlansHaveModels : Station → List Route → ℕ → Type 0
NormalPlansHaveModels d routes n = (plan : List (List Command)) → IsRunnable d routes n plan → VisitsAll d routes plan
    → IsNormal d routes plan → HasNormalModel d routes n plan

-- that of every normal plan that is feasible does
abbrev pub FeasibleNormalHaveModels : Station → ℕ → Type 0
FeasibleNormalHaveModels d n = (plan : List (List Command)) → IsFeasible d n plan → IsNormal d (routes_of d) plan
    → HasNormalModel d (routes_of d) n plan

-- the two models of a plan agree on the variables of the base
abbrev pub AgreeOnBase : Station → List Route → ℕ → Type 0
AgreeOnBase d routes n = (plan : List (List Command)) (v : ℕ) → v ≤ variable_count d routes n
    → normal_model_of d routes n plan v ≡ model_of d routes n plan v

-- a clause over these is true under the one where it is under the other
abbrev pub HoldAlikeOnBase : Station → List Route → ℕ → Type 0
HoldAlikeOnBase d routes n = (plan : List (List Command)) (clause : List Lit)
    → ((l : Lit) → In l clause → l.var ≤ variable_count d routes n)
    → clause_holds (normal_model_of d routes n plan) clause ≡ clause_holds (model_of d routes n plan) clause

-- each literal has a variable from 1 on that there is, and none the one which says that all is given by step n
abbrev pub AreInNormalRange : Station → List Route → ℕ → Type 0
AreInNormalRange d routes n = (c : List Lit) → In c (normal_base d routes n) → (l : Lit) → In l c
    → (1 ≤ l.var) × (l.var ≤ normal_variable_count d routes n) × (l.var ≢ number_of d routes n (By n))
