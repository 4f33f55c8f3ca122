-- The numbers in the clauses of the sorted base: from 1 to below the number of the last variable.
use Rattle.std.proofs.Common.{◌≡◌, ℕ, ◌≤◌, ◌<◌, ◌⊎◌, inl, inr, List, map, flat_map, sym, ap, subst, arith}
use Rattle.rail_base.specs.declared.station.Station.{Station}
use Rattle.rail_base.specs.declared.station.TrainNo.{TrainNo}
use Rattle.rail_base.specs.declared.route.Route.{Route}
use Rattle.rail_base.specs.declared.route.RouteNo.{RouteNo}
use Rattle.rail_base.specs.Members.{In}
use Rattle.rail_base.proofs.Lists.{in_append, in_map_back, in_flat_map_back}
use Rattle.rail_alike.specs.Turns.{AreNamed}
use Rattle.sat_clause.specs.declared.lit.Lit.{Lit}
use Rattle.clause_spec.specs.declared.question.Turns.{Turns}
use Rattle.clause_spec.specs.Variables.{Given, Literal, yes, numbered, variable_count}
use Rattle.clause_spec.specs.Clauses.{Clause, base_clauses}
use Rattle.clause_spec.proofs.InRange.{IsEarly, literals_in_range, number_below}
use Rattle.clause_spec.proofs.Numbers.{number_low}
use Rattle.alike_clause_spec.specs.Turns.{beginnings, has_begun, in_turn, turn_clauses, turn_pairs}
use Rattle.alike_clause_spec.specs.Sorted.{AreInRange, sorted_base}
use Rattle.alike_clause_spec.proofs.Holding.{OfPair, of_pair, all_known, turns_named}

module _ (d : Station) (routes : List Route) (n : ℕ) where
  -- no literal of a pair says that all is given by a step
  all_early : (p : TrainNo × TrainNo) (cl : Clause) → OfPair d routes n p cl → (l : Literal) → In l cl → IsEarly d routes n l.variable
  all_early p cl o l m = go (subst (In l) (sym o.is) m)
    where
      at : ((r : RouteNo) × In r (beginnings d routes n p.0) × (yes (Given (record { train = p.0; route = r }) o.step) ≡ l)) → IsEarly d routes n l.variable
      at (r, k, e) = subst (λ (x : Literal). IsEarly d routes n x.variable) e tt

      go : In l (has_begun d routes n p o.route o.step) → IsEarly d routes n l.variable
      go (inl e) = subst (λ (x : Literal). IsEarly d routes n x.variable) e tt
      go (inr k) = at (in_map_back (λ r. yes (Given (record { train = p.0; route = r }) o.step)) (beginnings d routes n p.0) l k)

  turns_in_range : 1 ≤ n → (pairs : List (TrainNo × TrainNo)) → AreNamed d pairs → AreInRange d routes n (turn_clauses d routes n pairs)
  turns_in_range some pairs named c m l i = clause (in_map_back (map (numbered d routes n)) (flat_map (in_turn d routes n) pairs) c m)
    where
      literal : (p : TrainNo × TrainNo) → In p pairs → (cl : Clause) → OfPair d routes n p cl → ((x : Literal) × In x cl × (numbered d routes n x ≡ l)) → (1 ≤ l.var) × (l.var < variable_count d routes n)
      literal p k cl o (x, j, e) =
          let known = all_known d routes n p (named p k).0 (named p k).1 cl o x j in
          let low = number_low d routes n x.variable known in
          let high = number_below d routes n some x.variable known (all_early p cl o x j) in
          let var = ap (λ (y : Lit). y.var) e in
          (omega arith, omega arith)

      pair : (cl : Clause) → In l (map (numbered d routes n) cl) → ((p : TrainNo × TrainNo) × In p pairs × In cl (in_turn d routes n p)) → (1 ≤ l.var) × (l.var < variable_count d routes n)
      pair cl y (p, k, j) = literal p k cl (of_pair d routes n p cl j) (in_map_back (numbered d routes n) cl l y)

      clause : ((cl : Clause) × In cl (flat_map (in_turn d routes n) pairs) × (map (numbered d routes n) cl ≡ c)) → (1 ≤ l.var) × (l.var < variable_count d routes n)
      clause (cl, k, e) = pair cl (subst (λ (x : List Lit). In l x) (sym e) i) (in_flat_map_back (in_turn d routes n) pairs cl k)

  pub sorted_in_range : (turns : Turns) → 1 ≤ n → AreInRange d routes n (sorted_base turns d routes n)
  sorted_in_range turns some c m l i = go (in_append c (base_clauses d routes n) (turn_clauses d routes n (turn_pairs turns d)) m)
    where
      go : In c (base_clauses d routes n) ⊎ In c (turn_clauses d routes n (turn_pairs turns d)) → (1 ≤ l.var) × (l.var < variable_count d routes n)
      go (inl k) = literals_in_range d routes n some c k l i
      go (inr k) = turns_in_range some (turn_pairs turns d) (turns_named turns d) c k l i
