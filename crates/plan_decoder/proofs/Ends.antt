-- A plan ends by the step by which the values say that all is given.
use Rattle.std.proofs.Common.{◌≡◌, ℕ, zero, suc, ◌+◌, ◌-◌, ◌≤◌, ◌<◌, inl, Bool, true, false, not, ◌||◌, List, [], ◌∷◌, map, length, refl, sym, ◌∙◌, arith, true≢false}
use Rattle.rail_base.specs.declared.station.Station.{Station}
use Rattle.rail_base.specs.declared.route.Route.{Route}
use Rattle.rail_base.specs.declared.plan.Command.{Command}
use Rattle.rail_base.specs.Numbering.{count_from}
use Rattle.rail_spec.specs.Plans.{all_commands}
use Rattle.rail_base.proofs.Members.{In}
use Rattle.rail_base.proofs.Lists.{in_map, in_count}
use Rattle.sat_core.specs.Models.{value_in}
use Rattle.clause_spec.specs.Variables.{Variable, Given, By, yes, no, number_of}
use Rattle.clause_spec.specs.declared.question.BaseKind.{BaseKind}
use Rattle.clause_spec.specs.Clauses.{Clause}
use Rattle.clause_spec.specs.Models.{given_by, given_in, with_step, cut_off}
use Rattle.clause_spec.proofs.Facts.{AllTrue, given_up_to, all_true}
use Rattle.clause_spec.proofs.Decoded.{New, new}
use Rattle.base_spec.specs.Bases.{decoded_of, on_plain}
use Rattle.base_spec.proofs.Alike.{begins_with_plain}
use Rattle.base_spec.proofs.Models.{by_on_plain}
use Rattle.plan_decoder.specs.Decoded.{EndsAsSaid}
use Rattle.plan_decoder.specs.Plans.{AreModel}

-- ---- steps past the first k

with_one : (s : List Command) (ss : List (List Command)) → length (with_step s ss) ≤ suc (length ss)
with_one [] [] = omega arith
with_one [] (s ∷ ss) = omega arith
with_one (c ∷ cs) ss = omega arith

with_none : (s : List Command) (ss : List (List Command)) → s ≡ [] → length ss ≤ 0 → length (with_step s ss) ≤ 0
with_none [] [] e h = omega arith
with_none [] (s ∷ ss) e h = absurd (omega arith)
with_none (c ∷ cs) ss e h = absurd (cc)

-- where all steps past the first k are empty, at most k are left
at_most : (step : ℕ → List Command) (a m k : ℕ) → ((i : ℕ) → a + k ≤ i → i < a + m → step i ≡ []) → length (cut_off (map step (count_from a m))) ≤ k
at_most step a zero k h = omega arith
at_most step a (suc m) zero h = with_none (step a) (cut_off (map step (count_from (a + 1) m))) (h a (omega arith) (omega arith)) (at_most step (a + 1) m zero (λ i low high. h i (omega arith) (omega arith)))
at_most step a (suc m) (suc k) h =
    let one = with_one (step a) (cut_off (map step (count_from (a + 1) m))) in
    let rest = at_most step (a + 1) m k (λ i low high. h i (omega arith) (omega arith)) in
    omega arith

-- ---- what is new past step k

no_members : {X : Type 0} (xs : List X) → ((x : X) → In x xs → ⊥) → xs ≡ []
no_members [] h = refl
no_members (x ∷ xs) h = absurd (h x (inl refl))

third : (a b c : Bool) → (not a || (not b || (c || false))) ≡ true → a ≡ true → b ≡ true → c ≡ true
third true true true h e f = refl
third true true false h e f = h
third true false c h e f = absurd (true≢false (sym f))
third false b c h e f = absurd (true≢false (sym e))

module _ (d : Station) (routes : List Route) (n : ℕ) (says : Variable → Bool) (all : AllTrue d routes n says) where
  -- where all is given by step k, so is each command that is given at all
  given_then : (c : Command) (k : ℕ) → In c (all_commands d routes) → 1 ≤ k → k < n → says (By k) ≡ true → says (Given c n) ≡ true → says (Given c k) ≡ true
  given_then c k m some below by given =
      let clause : Command → Clause = λ e. no (By k) ∷ no (Given e n) ∷ yes (Given e k) ∷ [] in
      third (says (By k)) (says (Given c n)) (says (Given c k)) (all.ends k (in_count 1 (n - 1) k some (omega arith)) (clause c) (in_map clause (all_commands d routes) c m)) by given

  -- so none is new in a later step
  none_past : (k i : ℕ) → 1 ≤ k → k < i → i ≤ n → says (By k) ≡ true → given_in d routes n says i ≡ []
  none_past k i some past high by = no_members (given_in d routes n says i) (λ c m. not_new c (new d routes n says c i m))
    where
      said : (c : Command) (j : ℕ) → given_by says c j ≡ true → says (Given c j) ≡ true
      said c zero g = absurd (true≢false (sym g))
      said c (suc j) g = g

      back : (c : Command) (j : ℕ) → 1 ≤ j → says (Given c j) ≡ true → given_by says c j ≡ true
      back c zero h g = absurd (omega arith)
      back c (suc j) h g = g

      not_new : (c : Command) → New d routes n says c i → ⊥
      not_new c is =
          let last = said c n (given_up_to d routes n says all c i n is.known high (omega arith) is.given) in
          let early = back c k some (given_then c k is.known some (omega arith) by last) in
          true≢false (sym (given_up_to d routes n says all c k (i - 1) is.known (omega arith) (omega arith) early) ∙ is.fresh)

pub ends_as_said : (kind : BaseKind) (d : Station) (routes : List Route) (n : ℕ) (values : List Bool) → AreModel values kind d routes n → EndsAsSaid kind d routes n values (decoded_of kind d routes n (value_in values))
ends_as_said kind d routes n values holds k some within by =
    let whole : ℕ → Bool = on_plain kind d routes n (value_in values) in
    let says : Variable → Bool = λ v. whole (number_of d routes n v) in
    let all = all_true d routes n whole (begins_with_plain kind d routes n (omega arith) (value_in values) holds) in
    at_most (given_in d routes n says) 1 n k (λ i low high. none_past d routes n says all k i some (omega arith) (omega arith) (by_on_plain kind d routes n k some within (value_in values) ∙ by))
