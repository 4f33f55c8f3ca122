-- What the laws of the clauses of cones speak of.
use Rattle.std.specs.Prelude.{◌≡◌, ℕ, Bool, true, List, ◌++◌, map, not}
use Rattle.std.specs.List.{list_all}
use Rattle.rail_base.specs.declared.station.Station.{Station}
use Rattle.rail_base.specs.declared.route.Route.{Route}
use Rattle.sat_clause.specs.Clauses.{clause_holds}
use Rattle.clause_spec.specs.Clauses.{base_clauses}
use Rattle.clause_spec.specs.Variables.{By, number_of}
use Rattle.cone_spec.specs.declared.Cone.{Cone}
use Rattle.cone_clause.specs.Numbered.{numbered_clause}
use Rattle.rail_base.specs.declared.plan.Command.{Command}
use Rattle.rail_spec.specs.Track.{routes_of}
use Rattle.rail_spec.specs.Feasible.{IsInfeasible}
use Rattle.clause_spec.specs.Models.{model_of}
use Rattle.cone_spec.specs.Validity.{in_design, is_valid_cone}
use Rattle.cone_spec.specs.Clauses.{clause_of_cone, is_false_of}
use Rattle.clause_spec.specs.Laws.{StandsInOrder}

-- no values that make the base and the clauses of these cones true say that all is given by step k
abbrev pub NoneByCones : Station → List Route → ℕ → ℕ → List Cone → Type 0
NoneByCones d routes n k cones = (values : ℕ → Bool)
    → list_all (clause_holds values) (base_clauses d routes n ++ map (numbered_clause d routes n) cones) ≡ true
    → values (number_of d routes n (By k)) ≡ true → ⊥

-- the clause of a cone of the design says of the plan, by its numbers, what its literals say
abbrev pub SaysTheSame : Station → List Route → ℕ → List (List Command) → Type 0
SaysTheSame d routes n plan = (k : Cone) → in_design d routes k ≡ true
    → clause_holds (model_of d routes n plan) (numbered_clause d routes n k) ≡ not (is_false_of plan (clause_of_cone d routes k))

-- the clause of each valid cone is true in the plan's model
abbrev pub ConesHoldInModel : Station → ℕ → List (List Command) → Type 0
ConesHoldInModel d n plan = (k : Cone) → is_valid_cone d (routes_of d) k ≡ true
    → clause_holds (model_of d (routes_of d) n plan) (numbered_clause d (routes_of d) n k) ≡ true

-- where valid cones leave no model by step k, no plan of k steps is feasible
abbrev pub RefutedIsInfeasible : Station → ℕ → ℕ → Type 0
RefutedIsInfeasible d n k = (cones : List Cone) → list_all (is_valid_cone d (routes_of d)) cones ≡ true
    → NoneByCones d (routes_of d) n k cones → IsInfeasible d k

-- the literals of the clause of every cone of the design stand by their variables
abbrev pub ConesStandInOrder : Station → List Route → ℕ → Type 0
ConesStandInOrder d routes n = (k : Cone) → in_design d routes k ≡ true → StandsInOrder (numbered_clause d routes n k)
