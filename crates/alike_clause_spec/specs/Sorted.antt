-- The base with the clauses of trains that come in turn, and what its laws speak of.
use Rattle.std.specs.Prelude.{◌≡◌, ℕ, ◌≤◌, ◌<◌, Bool, true, List, ◌++◌}
use Rattle.std.specs.List.{list_all}
use Rattle.rail_base.specs.declared.station.Station.{Station}
use Rattle.rail_base.specs.declared.route.Route.{Route}
use Rattle.rail_base.specs.declared.plan.Command.{Command}
use Rattle.rail_base.specs.Members.{In}
use Rattle.rail_spec.specs.Track.{routes_of}
use Rattle.rail_spec.specs.Feasible.{IsFeasible, IsInfeasible}
use Rattle.sat_clause.specs.declared.lit.Lit.{Lit}
use Rattle.sat_clause.specs.Clauses.{clause_holds}
use Rattle.clause_spec.specs.declared.question.Turns.{Turns}
use Rattle.clause_spec.specs.Variables.{By, number_of, variable_count}
use Rattle.clause_spec.specs.Clauses.{base_clauses}
use Rattle.clause_spec.specs.Models.{model_of}
use Rattle.alike_clause_spec.specs.Turns.{turn_clauses, turn_pairs}

-- the base, and then the clauses that these pairs of trains come in turn
abbrev pub sorted_base : Turns → Station → List Route → ℕ → List (List Lit)
sorted_base turns d routes n = base_clauses d routes n ++ turn_clauses d routes n (turn_pairs turns d)

-- the model of each feasible plan makes these clauses true
abbrev pub AreSound : Station → ℕ → List (List Lit) → Type 0
AreSound d n more = (plan : List (List Command)) → IsFeasible d n plan
    → list_all (clause_holds (model_of d (routes_of d) n plan)) more ≡ true

-- a feasible plan of at most n steps, all given by step k, whose model makes the sorted base true
pub record HasSortedModel (turns : Turns) (d : Station) (n k : ℕ) : Type 0 where
  pub plan : List (List Command)
  pub feasible : IsFeasible d n plan
  pub holds : list_all (clause_holds (model_of d (routes_of d) n plan)) (sorted_base turns d (routes_of d) n) ≡ true
  pub by : model_of d (routes_of d) n plan (number_of d (routes_of d) n (By k)) ≡ true

-- no values that make the sorted base and these clauses true say that all is given by step k
abbrev pub NoneSortedBy : Turns → Station → ℕ → ℕ → List (List Lit) → Type 0
NoneSortedBy turns d n k more = (values : ℕ → Bool)
    → list_all (clause_holds values) (sorted_base turns d (routes_of d) n ++ more) ≡ true
    → values (number_of d (routes_of d) n (By k)) ≡ true → ⊥

-- each literal has a variable from 1 on, and none the last one, which says that all is given by step n
abbrev pub AreInRange : Station → List Route → ℕ → List (List Lit) → Type 0
AreInRange d routes n clauses = (c : List Lit) → In c clauses → (l : Lit) → In l c
    → (1 ≤ l.var) × (l.var < variable_count d routes n)

-- no plan of k steps is feasible where no sorted model of the base, with clauses that every such model keeps, says that all is given by step k
abbrev pub NoneSortedIsInfeasible : Turns → Station → ℕ → ℕ → Type 0
NoneSortedIsInfeasible turns d n k = (more : List (List Lit)) → AreSound d n more → NoneSortedBy turns d n k more
    → IsInfeasible d k
