-- What the laws of the clauses of bounds speak of.
use Rattle.std.specs.Prelude.{◌≡◌, ℕ, true, List}
use Rattle.std.specs.List.{list_all}
use Rattle.rail_base.specs.declared.station.Station.{Station}
use Rattle.rail_base.specs.declared.route.Route.{Route}
use Rattle.rail_base.specs.declared.plan.Command.{Command}
use Rattle.rail_spec.specs.Track.{routes_of}
use Rattle.rail_spec.specs.Feasible.{IsInfeasible}
use Rattle.sat_clause.specs.Clauses.{clause_holds}
use Rattle.clause_spec.specs.declared.question.Turns.{Turns}
use Rattle.clause_spec.specs.Laws.{StandsInOrder}
use Rattle.clause_spec.specs.Models.{model_of}
use Rattle.alike_clause_spec.specs.Sorted.{NoneSortedBy}
use Rattle.cone_spec.specs.declared.Cone.{Cone}
use Rattle.cone_spec.specs.Validity.{is_valid_cone}
use Rattle.bound_spec.specs.declared.Bound.{Bound}
use Rattle.bound_spec.specs.Validity.{in_design, is_valid_bound}
use Rattle.bound_clause.specs.Numbered.{numbered_bound, clauses_of_evidence}

-- the clause of each valid bound is true in the plan's model
abbrev pub BoundsHoldInModel : Station → ℕ → List (List Command) → Type 0
BoundsHoldInModel d n plan = (b : Bound) → is_valid_bound d (routes_of d) b ≡ true
    → clause_holds (model_of d (routes_of d) n plan) (numbered_bound d (routes_of d) n b) ≡ true

-- the literals of the clause of every bound of the design stand by their variables
abbrev pub BoundsStandInOrder : Station → List Route → ℕ → Type 0
BoundsStandInOrder d routes n = (b : Bound) → in_design d routes b ≡ true → StandsInOrder (numbered_bound d routes n b)

-- where valid cones and bounds leave no sorted model by step k, no plan of k steps is feasible
abbrev pub RefutedIsInfeasible : Turns → Station → ℕ → ℕ → Type 0
RefutedIsInfeasible turns d n k = (cones : List Cone) (bounds : List Bound)
    → list_all (is_valid_cone d (routes_of d)) cones ≡ true → list_all (is_valid_bound d (routes_of d)) bounds ≡ true
    → NoneSortedBy turns d n k (clauses_of_evidence d n cones bounds) → IsInfeasible d k
