-- The sorted base, clause by clause.
use Rattle.std.proofs.Common.{◌≡◌, ℕ, ◌≤◌, ◌<◌, ◌⊎◌, inl, inr, List, map, flat_map, sym, ap, subst, arith}
use Rattle.std.proofs.lemmas.List.{map-append}
use Rattle.rail_base.specs.declared.station.Station.{Station}
use Rattle.rail_base.specs.declared.station.TrainNo.{TrainNo}
use Rattle.rail_base.specs.declared.route.Route.{Route}
use Rattle.rail_base.specs.Members.{In}
use Rattle.rail_base.proofs.Lists.{in_append, in_flat_map_back, in_map}
use Rattle.sat_clause.specs.declared.lit.Lit.{Lit}
use Rattle.clause_spec.specs.declared.question.Turns.{Turns}
use Rattle.clause_spec.specs.Variables.{By, Literal, number_of, numbered, variable_count}
use Rattle.clause_spec.specs.Clauses.{Clause, clauses}
use Rattle.clause_spec.proofs.Families.{KnownAll, clauses_known}
use Rattle.alike_clause_spec.specs.Turns.{in_turn, turn_pairs}
use Rattle.alike_clause_spec.specs.Sorted.{sorted_base}
use Rattle.alike_clause_spec.proofs.Holding.{all_known, of_pair, turns_named}
use Rattle.alike_clause_spec.proofs.InRange.{sorted_in_range}
use Rattle.live_clause_spec.specs.Clauses.{sorted_clauses}

module _ (turns : Turns) (d : Station) (routes : List Route) (n : ℕ) where
  -- it is these clauses over numbers
  pub sorted_are : sorted_base turns d routes n ≡ map (map (numbered d routes n)) (sorted_clauses turns d routes n)
  sorted_are = sym (map-append (map (numbered d routes n)) (clauses d routes n) (flat_map (in_turn d routes n) (turn_pairs turns d)))

  -- each variable in them is one that there is
  pub sorted_known : 1 ≤ n → (cl : Clause) → In cl (sorted_clauses turns d routes n) → KnownAll d routes n cl
  sorted_known some cl m = go (in_append cl (clauses d routes n) (flat_map (in_turn d routes n) (turn_pairs turns d)) m)
    where
      turn : ((p : TrainNo × TrainNo) × In p (turn_pairs turns d) × In cl (in_turn d routes n p)) → KnownAll d routes n cl
      turn (p, k, j) = let named = turns_named turns d p k in all_known d routes n p named.0 named.1 cl (of_pair d routes n p cl j)

      go : In cl (clauses d routes n) ⊎ In cl (flat_map (in_turn d routes n) (turn_pairs turns d)) → KnownAll d routes n cl
      go (inl k) = clauses_known d routes n some cl k
      go (inr k) = turn (in_flat_map_back (in_turn d routes n) (turn_pairs turns d) cl k)

  -- and none says that all is given by the last step
  pub not_last : 1 ≤ n → (cl : Clause) → In cl (sorted_clauses turns d routes n) → (l : Literal) → In l cl → l.variable ≡ By n → ⊥
  not_last some cl m l i e =
      let c : List Lit = map (numbered d routes n) cl in
      let there : In c (sorted_base turns d routes n) = subst (In c) (sym sorted_are) (in_map (map (numbered d routes n)) (sorted_clauses turns d routes n) cl m) in
      let r = sorted_in_range d routes n turns some c there (numbered d routes n l) (in_map (numbered d routes n) cl l i) in
      let high : number_of d routes n l.variable < variable_count d routes n = r.1 in
      let same : number_of d routes n l.variable ≡ variable_count d routes n = ap (number_of d routes n) e in
      absurd (omega arith)
