-- What is given in a step is given by it, and not by the step before: so the clauses that say this are true of each plan.
use Rattle.std.proofs.Common.{◌≡◌, ℕ, zero, suc, ◌-◌, ◌≤◌, ◌<◌, ◌⊎◌, inl, inr, Bool, true, false, not, ◌==◌, List, [], ◌∷◌, ◌++◌, map, nat_le, refl, ap, subst, arith, leb-true, le-leb, eqb-true, eq-eqb}
use Rattle.rail_base.specs.declared.station.Station.{Station}
use Rattle.rail_base.specs.declared.route.Route.{Route}
use Rattle.rail_base.specs.declared.plan.Command.{Command}
use Rattle.rail_spec.specs.Plans.{step_of, has_command}
use Rattle.rail_base.proofs.Members.{In, and_left, and_right, and_both, below_or_not, false_unless, list_any_from}
use Rattle.rail_base.proofs.Lists.{in_append, in_append_left, in_append_right}
use Rattle.clause_spec.specs.Variables.{Given, yes, no, if_given}
use Rattle.clause_spec.specs.Models.{is_so}
use Rattle.clause_spec.proofs.Steps.{step_low}
use Rattle.normal_clause_spec.specs.Variables.{NormalLiteral, of_base, is_in, is_not_in}
use Rattle.normal_clause_spec.specs.Clauses.{NormalClause, not_before, exactly_in}
use Rattle.normal_clause_spec.specs.Models.{normal_literal_holds, normal_holds, is_normally_so, stands_in}

-- one true literal is enough
pub one_holds : (plan : List (List Command)) (cl : NormalClause) (l : NormalLiteral) → In l cl → normal_literal_holds (is_normally_so plan) l ≡ true → normal_holds (is_normally_so plan) cl ≡ true
one_holds plan cl l m h = list_any_from (normal_literal_holds (is_normally_so plan)) cl l m h

module _ (d : Station) (routes : List Route) (n : ℕ) (plan : List (List Command)) (c : Command) where
  its_step : (i : ℕ) → stands_in plan c i ≡ true → step_of plan c ≡ i
  its_step i h = eqb-true (step_of plan c) i (and_right (has_command plan c) (step_of plan c == i) h)

  there : (i : ℕ) → stands_in plan c i ≡ true → has_command plan c ≡ true
  there i h = and_left (has_command plan c) (step_of plan c == i) h

  given_then : (i : ℕ) → normal_holds (is_normally_so plan) (is_not_in c i ∷ of_base (yes (Given c i)) ∷ []) ≡ true
  given_then i = go (stands_in plan c i) refl
    where
      go : (b : Bool) → stands_in plan c i ≡ b → normal_holds (is_normally_so plan) (is_not_in c i ∷ of_base (yes (Given c i)) ∷ []) ≡ true
      go false e = one_holds plan (is_not_in c i ∷ of_base (yes (Given c i)) ∷ []) (is_not_in c i) (inl refl) (ap not e)
      go true e =
          let s = its_step i e in
          one_holds plan (is_not_in c i ∷ of_base (yes (Given c i)) ∷ []) (of_base (yes (Given c i))) (inr (inl refl)) (and_both (has_command plan c) (nat_le (step_of plan c) i) (there i e) (le-leb (step_of plan c) i (omega arith)))

  before_holds : (i : ℕ) (cl : NormalClause) → In cl (not_before d routes n c i) → normal_holds (is_normally_so plan) cl ≡ true
  before_holds zero cl m = absurd m
  before_holds (suc i) cl (inr m) = absurd m
  before_holds (suc i) cl (inl f) = subst (λ x. normal_holds (is_normally_so plan) x ≡ true) f (go (stands_in plan c (suc (suc i))) refl)
    where
      go : (b : Bool) → stands_in plan c (suc (suc i)) ≡ b → normal_holds (is_normally_so plan) (is_not_in c (suc (suc i)) ∷ of_base (no (Given c (suc i))) ∷ []) ≡ true
      go false e = one_holds plan (is_not_in c (suc (suc i)) ∷ of_base (no (Given c (suc i))) ∷ []) (is_not_in c (suc (suc i))) (inl refl) (ap not e)
      go true e =
          let s = its_step (suc (suc i)) e in
          let late : is_so plan (Given c (suc i)) ≡ false = false_unless (is_so plan (Given c (suc i))) (λ h. let l = leb-true (step_of plan c) (suc i) (and_right (has_command plan c) (nat_le (step_of plan c) (suc i)) h) in absurd (omega arith)) in
          one_holds plan (is_not_in c (suc (suc i)) ∷ of_base (no (Given c (suc i))) ∷ []) (of_base (no (Given c (suc i)))) (inr (inl refl)) (ap not late)

  in_if_given : (i : ℕ) → 1 ≤ i → In (of_base (yes (Given c i))) (map of_base (if_given c i))
  in_if_given zero low = absurd (omega arith)
  in_if_given (suc i) low = inl refl

  new_then : (i : ℕ) → normal_holds (is_normally_so plan) (of_base (no (Given c i)) ∷ map of_base (if_given c (i - 1)) ++ is_in c i ∷ []) ≡ true
  new_then i = go (is_so plan (Given c i)) refl
    where
      at : has_command plan c ≡ true → step_of plan c ≤ i → (step_of plan c < i) ⊎ (i ≤ step_of plan c) → normal_holds (is_normally_so plan) (of_base (no (Given c i)) ∷ map of_base (if_given c (i - 1)) ++ is_in c i ∷ []) ≡ true
      at h l (inl k) =
          let low = step_low plan c in
          one_holds plan (of_base (no (Given c i)) ∷ map of_base (if_given c (i - 1)) ++ is_in c i ∷ []) (of_base (yes (Given c (i - 1))))
          (inr (in_append_left (of_base (yes (Given c (i - 1)))) (map of_base (if_given c (i - 1))) (is_in c i ∷ []) (in_if_given (i - 1) (omega arith))))
          (and_both (has_command plan c) (nat_le (step_of plan c) (i - 1)) h (le-leb (step_of plan c) (i - 1) (omega arith)))
      at h l (inr k) =
          let same : step_of plan c ≡ i = omega arith in
          one_holds plan (of_base (no (Given c i)) ∷ map of_base (if_given c (i - 1)) ++ is_in c i ∷ []) (is_in c i)
          (inr (in_append_right (is_in c i) (map of_base (if_given c (i - 1))) (is_in c i ∷ []) (inl refl)))
          (and_both (has_command plan c) (step_of plan c == i) h (eq-eqb (step_of plan c) i same))

      go : (b : Bool) → is_so plan (Given c i) ≡ b → normal_holds (is_normally_so plan) (of_base (no (Given c i)) ∷ map of_base (if_given c (i - 1)) ++ is_in c i ∷ []) ≡ true
      go false e = one_holds plan (of_base (no (Given c i)) ∷ map of_base (if_given c (i - 1)) ++ is_in c i ∷ []) (of_base (no (Given c i))) (inl refl) (ap not e)
      go true e = at (and_left (has_command plan c) (nat_le (step_of plan c) i) e) (leb-true (step_of plan c) i (and_right (has_command plan c) (nat_le (step_of plan c) i) e)) (below_or_not (step_of plan c) i)

  pub exactly_in_holds : (i : ℕ) (cl : NormalClause) → In cl (exactly_in d routes n c i) → normal_holds (is_normally_so plan) cl ≡ true
  exactly_in_holds i cl (inl e) = subst (λ x. normal_holds (is_normally_so plan) x ≡ true) e (given_then i)
  exactly_in_holds i cl (inr m) = go (in_append cl (not_before d routes n c (i - 1)) ((of_base (no (Given c i)) ∷ map of_base (if_given c (i - 1)) ++ is_in c i ∷ []) ∷ []) m)
    where
      go : In cl (not_before d routes n c (i - 1)) ⊎ In cl ((of_base (no (Given c i)) ∷ map of_base (if_given c (i - 1)) ++ is_in c i ∷ []) ∷ []) → normal_holds (is_normally_so plan) cl ≡ true
      go (inl k) = before_holds (i - 1) cl k
      go (inr (inl e)) = subst (λ x. normal_holds (is_normally_so plan) x ≡ true) e (new_then i)
      go (inr (inr k)) = absurd k
