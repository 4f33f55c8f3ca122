-- Which pairs of trains come in turn, and clauses that say of pairs that the first is given its first command in a step
-- no later than the other's.
use Rattle.std.specs.Prelude.{ℕ, Bool, List, ◌∷◌, map, filter, flat_map, ◌≡◌, true}
use Rattle.rail_base.specs.declared.station.Station.{Station}
use Rattle.rail_base.specs.declared.station.TrainNo.{TrainNo}
use Rattle.rail_base.specs.declared.route.Route.{Route}
use Rattle.rail_base.specs.declared.route.RouteNo.{RouteNo}
use Rattle.rail_base.specs.Numbering.{one_to}
use Rattle.rail_base.specs.Stations.{train_of, first_visit}
use Rattle.rail_spec.specs.Plans.{route_at, starts_in, route_numbers}
use Rattle.sat_clause.specs.declared.lit.Lit.{Lit}
use Rattle.clause_spec.specs.declared.question.Turns.{Turns}
use Rattle.clause_spec.specs.declared.question.Turns.TheVariants.{All, Beside}
use Rattle.clause_spec.specs.Variables.{Given, yes, no, numbered}
use Rattle.clause_spec.specs.Clauses.{Clause}
use Rattle.std.specs.List.{list_all}
use Rattle.rail_base.specs.declared.plan.Command.{Command}
use Rattle.rail_alike.specs.Tests.{neighbors, neighbors_beside}
use Rattle.rail_alike.specs.Turns.{AreNamed, InTurn}
use Rattle.sat_clause.specs.Clauses.{clause_holds}
use Rattle.clause_spec.specs.Models.{model_of}

-- each train with the next one that is like it: of all of them, or of those that a within doesn't name
abbrev pub turn_pairs : Turns → Station → List (TrainNo × TrainNo)
turn_pairs All d = neighbors d
turn_pairs (Beside w) d = neighbors_beside d w

module _ (d : Station) (routes : List Route) (n : ℕ) where
  -- the train may begin with the route
  abbrev pub begins : TrainNo → RouteNo → Bool
  begins t r = starts_in (first_visit (train_of d t)) (route_at routes r).start

  -- the routes with which it may begin
  abbrev pub beginnings : TrainNo → List RouteNo
  beginnings t = filter (begins t) (route_numbers routes)

  -- where the later train of a pair is given this route by a step, the earlier has begun by it
  abbrev pub has_begun : TrainNo × TrainNo → RouteNo → ℕ → Clause
  has_begun p q i =
      no (Given (record { train = p.1; route = q }) i)
      ∷ map (λ r. yes (Given (record { train = p.0; route = r }) i)) (beginnings p.0)

  -- for each step
  abbrev pub begun_always : TrainNo × TrainNo → RouteNo → List Clause
  begun_always p q = map (has_begun p q) (one_to n)

  -- for each route with which the later may begin
  abbrev pub in_turn : TrainNo × TrainNo → List Clause
  in_turn p = flat_map (begun_always p) (beginnings p.1)

  -- for each pair, over numbers
  abbrev pub turn_clauses : List (TrainNo × TrainNo) → List (List Lit)
  turn_clauses pairs = map (map (numbered d routes n)) (flat_map in_turn pairs)

-- where pairs come in turn in the plan, its model makes their clauses true
abbrev pub TurnsHold : Station → List Route → ℕ → List (List Command) → Type 0
TurnsHold d routes n plan = (pairs : List (TrainNo × TrainNo)) → AreNamed d pairs → InTurn pairs plan
    → list_all (clause_holds (model_of d routes n plan)) (turn_clauses d routes n pairs) ≡ true
