-- The numbers in the clauses of the base: from 1 to below the number of the last variable.
use Rattle.std.proofs.Common.{◌≡◌, ℕ, ◌-◌, ◌≤◌, ◌<◌, inl, inr, List, [], ◌∷◌, map, sym, ap, subst, arith}
use Rattle.std.proofs.lemmas.Bool.Decides.{eqb_tells}
use Rattle.rail_base.specs.declared.station.Station.{Station}
use Rattle.rail_base.specs.declared.route.Route.{Route}
use Rattle.rail_base.specs.declared.plan.Command.{Command}
use Rattle.rail_base.specs.Numbering.{one_to}
use Rattle.rail_base.proofs.Members.{In}
use Rattle.rail_base.proofs.Lists.{in_map_back, in_count_back}
use Rattle.rail_spec.specs.Plans.{all_commands}
use Rattle.sat_clause.specs.declared.lit.Lit.{Lit}
use Rattle.clause_spec.specs.Variables.{Variable, Given, Before, By, Literal, yes, no, numbered, number_of, variable_count}
use Rattle.clause_spec.specs.Clauses.{Clause, all_given, clauses}
use Rattle.clause_spec.specs.Laws.{AreLiteralsInRange}
use Rattle.clause_spec.proofs.Families.{clauses_known}
use Rattle.clause_spec.proofs.Numbers.{Known, number_low}
use Rattle.clause_spec.proofs.Plain.{IsPlain, of_plain}
use Rattle.clause_spec.proofs.Variables.{number_high, one_number}

module _ (d : Station) (routes : List Route) (n : ℕ) where
  -- the variable doesn't say that all is given by the last step
  abbrev pub IsEarly : Variable → Type 0
  IsEarly (Given c i) = Unit {0}
  IsEarly (Before e c) = Unit {0}
  IsEarly (By k) = k < n

  plain_early : (v : Variable) → IsPlain v → IsEarly v
  plain_early (Given c i) p = tt
  plain_early (Before e c) p = tt
  plain_early (By k) p = absurd p

  abbrev EarlyAll : Clause → Type 0
  EarlyAll cl = (l : Literal) → In l cl → IsEarly l.variable

  early_at : (v l : Literal) → v ≡ l → IsEarly v.variable → IsEarly l.variable
  early_at v l e k = subst (λ (x : Literal). IsEarly x.variable) e k

  by_early : (k : ℕ) → In k (one_to (n - 1)) → (cl : Clause) → In cl (all_given d routes n k) → EarlyAll cl
  by_early k h cl m =
      let f = in_map_back (λ c. no (By k) ∷ no (Given c n) ∷ yes (Given c k) ∷ []) (all_commands d routes) cl m in
      subst EarlyAll f.2 (go f.0)
    where
      go : (c : Command) → EarlyAll (no (By k) ∷ no (Given c n) ∷ yes (Given c k) ∷ [])
      go c l (inl e) = let r = in_count_back 1 (n - 1) k h in let low = r.0 in let high = r.1 in early_at (no (By k)) l e (omega arith)
      go c l (inr (inl e)) = early_at (no (Given c n)) l e tt
      go c l (inr (inr (inl e))) = early_at (yes (Given c k)) l e tt
      go c l (inr (inr (inr x))) = absurd x

  all_early : (cl : Clause) → In cl (clauses d routes n) → EarlyAll cl
  all_early = of_plain d routes n EarlyAll (λ cl p l m. plain_early l.variable (p l m)) by_early

  -- it has not the last number
  not_by_last : (v : Variable) → IsEarly v → v ≡ By n → ⊥
  not_by_last v e same = let late : n < n = subst IsEarly same e in omega arith

  pub number_below : 1 ≤ n → (v : Variable) → Known d routes n v → IsEarly v → number_of d routes n v < variable_count d routes n
  number_below some v k e =
      let high = number_high d routes n v k in
      let last : number_of d routes n v ≡ number_of d routes n (By n) → ⊥ = λ same. not_by_last v e (one_number d routes n v (By n) k (some, omega arith) same) in
      let apart : number_of d routes n v ≡ variable_count d routes n → ⊥ = λ same. last (same) in
      elim (eqb_tells (number_of d routes n v) (variable_count d routes n)) [ inl p ↦ absurd (apart p.1) | inr p ↦ less (number_of d routes n v) (variable_count d routes n) high p.1 ]
    where
      less : (a b : ℕ) → a ≤ b → (a ≡ b → ⊥) → a < b
      less a b le ne = omega arith

  in_range : 1 ≤ n → (cl : Clause) → In cl (clauses d routes n) → (l : Lit) → In l (map (numbered d routes n) cl) → (1 ≤ l.var) × (l.var < variable_count d routes n)
  in_range some cl m l i =
      let f = in_map_back (numbered d routes n) cl l i in
      let known = clauses_known d routes n some cl m f.0 f.1 in
      let early = all_early cl m f.0 f.1 in
      let var = ap (λ (x : Lit). x.var) f.2 in
      let low = number_low d routes n f.0.variable known in
      let high = number_below some f.0.variable known early in
      (omega arith, omega arith)

pub literals_in_range : (d : Station) (routes : List Route) (n : ℕ) → 1 ≤ n → AreLiteralsInRange d routes n
literals_in_range d routes n some = λ c m l i. (
    let f = in_map_back (map (numbered d routes n)) (clauses d routes n) c m in
    in_range d routes n some f.0 f.1 l (subst (λ (x : List Lit). In l x) (sym f.2) i))
