-- Values that make the clauses of trains in turn true give a plan whose model does.
use Rattle.std.proofs.Common.{◌≡◌, ℕ, inl, inr, Bool, true, List, map, flat_map, sym, ap, subst, ◌∙◌}
use Rattle.std.specs.List.{list_all}
use Rattle.alike_clause_spec.specs.Turns.{beginnings, has_begun, in_turn, turn_clauses, turn_pairs}
use Rattle.alike_clause_spec.proofs.Holding.{OfPair, of_pair, all_known, turns_named}
use Rattle.clause_spec.specs.declared.question.Turns.{Turns}
use Rattle.clause_spec.specs.Clauses.{Clause, base_clauses}
use Rattle.clause_spec.specs.Models.{decoded, model_of}
use Rattle.clause_spec.specs.Variables.{Variable, Given, Before, By, Literal, yes, number_of, numbered}
use Rattle.clause_spec.proofs.Decode.{decoded_given}
use Rattle.clause_spec.proofs.Numbers.{Known, clause_says, holds_alike}
use Rattle.rail_base.specs.declared.route.RouteNo.{RouteNo}
use Rattle.rail_base.specs.declared.station.Station.{Station}
use Rattle.rail_base.specs.declared.station.TrainNo.{TrainNo}
use Rattle.rail_base.proofs.Members.{In, list_all_at}
use Rattle.rail_base.proofs.Lists.{in_map_back, in_flat_map_back, list_all_from}
use Rattle.rail_spec.specs.Track.{routes_of}
use Rattle.sat_clause.specs.declared.lit.Lit.{Lit}
use Rattle.sat_clause.specs.Clauses.{clause_holds}

-- the variable says that a command is given by a step
abbrev IsGiven : Variable → Type 0
IsGiven (Given c i) = Unit {0}
IsGiven (Before e c) = ⊥
IsGiven (By k) = ⊥

-- the clauses of a pair say of nothing else
all_given : (d : Station) (n : ℕ) (p : TrainNo × TrainNo) (cl : Clause) → OfPair d (routes_of d) n p cl → (l : Literal) → In l cl → IsGiven l.variable
all_given d n p cl o l m = go (subst (In l) (sym o.is) m)
  where
    at : ((r : RouteNo) × In r (beginnings d (routes_of d) n p.0) × (yes (Given (record { train = p.0; route = r }) o.step) ≡ l)) → IsGiven l.variable
    at (r, k, e) = subst (λ (x : Literal). IsGiven x.variable) e tt

    go : In l (has_begun d (routes_of d) n p o.route o.step) → IsGiven l.variable
    go (inl e) = subst (λ (x : Literal). IsGiven x.variable) e tt
    go (inr k) = at (in_map_back (λ r. yes (Given (record { train = p.0; route = r }) o.step)) (beginnings d (routes_of d) n p.0) l k)

module _ (turns : Turns) (d : Station) (n : ℕ) (values : ℕ → Bool) (true_ : list_all (clause_holds values) (base_clauses d (routes_of d) n) ≡ true) where
  abbrev model : ℕ → Bool
  model = model_of d (routes_of d) n (decoded d (routes_of d) n values)

  given_alike : (v : Variable) → Known d (routes_of d) n v → IsGiven v → model (number_of d (routes_of d) n v) ≡ values (number_of d (routes_of d) n v)
  given_alike (Given c i) k g = decoded_given d (routes_of d) n values true_ c i k.0 k.1 k.2
  given_alike (Before e c) k g = absurd g
  given_alike (By j) k g = absurd g

  clause_alike : (p : TrainNo × TrainNo) → In p (turn_pairs turns d) → (cl : Clause) → In cl (in_turn d (routes_of d) n p) → clause_holds model (map (numbered d (routes_of d) n) cl) ≡ clause_holds values (map (numbered d (routes_of d) n) cl)
  clause_alike p k cl m =
      let o = of_pair d (routes_of d) n p cl m in
      let named = turns_named turns d p k in
      clause_says d (routes_of d) n model cl
      ∙ (holds_alike (λ v. model (number_of d (routes_of d) n v)) (λ v. values (number_of d (routes_of d) n v)) cl
      (λ l i. given_alike l.variable (all_known d (routes_of d) n p named.0 named.1 cl o l i) (all_given d n p cl o l i))
      ∙ sym (clause_says d (routes_of d) n values cl))

  one : list_all (clause_holds values) (turn_clauses d (routes_of d) n (turn_pairs turns d)) ≡ true → (c : List Lit) → In c (turn_clauses d (routes_of d) n (turn_pairs turns d)) → clause_holds model c ≡ true
  one h c m =
      let f = in_map_back (map (numbered d (routes_of d) n)) (flat_map (in_turn d (routes_of d) n) (turn_pairs turns d)) c m in
      let p = in_flat_map_back (in_turn d (routes_of d) n) (turn_pairs turns d) f.0 f.1 in
      let alike = clause_alike p.0 p.1 f.0 p.2 in
      ap (clause_holds model) (sym f.2) ∙ (alike ∙ (ap (clause_holds values) f.2 ∙ list_all_at (clause_holds values) (turn_clauses d (routes_of d) n (turn_pairs turns d)) c h m))

  pub turns_retold : list_all (clause_holds values) (turn_clauses d (routes_of d) n (turn_pairs turns d)) ≡ true → list_all (clause_holds model) (turn_clauses d (routes_of d) n (turn_pairs turns d)) ≡ true
  turns_retold h = list_all_from (clause_holds model) (turn_clauses d (routes_of d) n (turn_pairs turns d)) (one h)
