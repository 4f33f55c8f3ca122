-- A small design: the clauses are true of the plan with its trains in turn, and false of the one with them exchanged.
use Rattle.std.specs.Prelude.{◌≡◌, Bool, true, false, List, length, refl}
use Rattle.std.specs.List.{list_all}
use Rattle.rail_base.specs.declared.plan.Command.{Command}
use Rattle.rail_spec.specs.Track.{routes_of}
use Rattle.rail_spec.specs.Requirements.{meets}
use Rattle.rail_laws.proofs.Stations.{follow, plan_two}
use Rattle.rail_alike.specs.Alike.{exchanged}
use Rattle.rail_alike.specs.Tests.{neighbors}
use Rattle.sat_clause.specs.Clauses.{clause_holds}
use Rattle.clause_spec.specs.Models.{model_of}
use Rattle.alike_clause_spec.specs.Turns.{turn_clauses}

abbrev turned : List (List Command) → Bool
turned plan = list_all (clause_holds (model_of follow (routes_of follow) 4 plan)) (turn_clauses follow (routes_of follow) 4 (neighbors follow))

abbrev other_way : List (List Command)
other_way = exchanged (record { 0 = 1 }) (record { 0 = 2 }) plan_two

in_turn : turned plan_two ≡ true
in_turn = refl

out_of_turn : turned other_way ≡ false
out_of_turn = refl

-- both are plans that meet the design
one_meets : meets follow (routes_of follow) plan_two ≡ true
one_meets = refl

other_meets : meets follow (routes_of follow) other_way ≡ true
other_meets = refl

-- one route to begin with, four steps, one pair
four : length (turn_clauses follow (routes_of follow) 4 (neighbors follow)) ≡ 4
four = refl
