-- What is left of a clause, in the course of a search.
use Rattle.std.proofs.Common.{◌≤◌, take, ◌≡◌, ℕ, zero, suc, true, false, cond, not, ◌&&◌, ◌||◌, List, [], ◌∷◌, ◌++◌, length, Option, Some, None, refl, sym, ap, ◌∙◌, arith, subst, inl, inr}
use Rattle.std.specs.List.{list_all}
use Rattle.sat_clause.specs.declared.lit.Lit.{Lit}
use Rattle.sat_clause.specs.Clauses.{Store, live_clause}
use Rattle.sat_clause.specs.Hints.{same_lit, is_assigned, open_lits, unit_of, only_one}
use Rattle.sat_clause.specs.Closed.{IsInactive}
use Rattle.sat_trail.specs.declared.status.ClauseStatus.{ClauseStatus}
use Rattle.sat_trail.specs.declared.status.ClauseStatus.TheVariants as clause_status
use Rattle.sat_trail.specs.Scans.{status_in, status_of, InactiveAmong}
use Rattle.sat_trail.specs.Attached.{is_among}
use Rattle.sat_trail.proofs.Members.{told, either}
use Rattle.std.proofs.lemmas.Bool.{eqb-true}
use Rattle.std.specs.Prelude.{nat_eq, IsSome}

-- what is found in the end, where this was found so far and these open literals are left
abbrev pub looked : List Lit → Option Lit → List Lit → ClauseStatus
looked assigned None ls = status_in assigned ls
looked assigned (Some f) ls = cond (list_all (same_lit f) ls) (clause_status.Unit f) clause_status.Inactive

among-append : (xs ys : List ℕ) (id : ℕ) → is_among (xs ++ ys) id ≡ (is_among xs id || is_among ys id)
among-append [] ys id = refl
among-append (x ∷ xs) ys id = elim (told (nat_eq id x)) [ inl t ↦ rw t refl | inr f ↦ rw f (among-append xs ys id) ]

among-one : (x id : ℕ) → is_among (x ∷ []) id ≡ true → id ≡ x
among-one x id h = elim (either (nat_eq id x) false h) [ inl s ↦ eqb-true id x s | inr f ↦ absurd (cc) ]

some-same : {A : Type 0} (a b : A) → Some a ≡ Some b → a ≡ b
some-same a b e = cc

pub quiet-more : (store : Store) (assigned : List Lit) (ids now : List ℕ) (x : ℕ) (c : List Lit) → now ≡ ids ++ x ∷ [] → InactiveAmong store assigned ids → live_clause store x ≡ Some c → IsInactive assigned c → InactiveAmong store assigned now
quiet-more store assigned ids now x c e q live one id d m l = elim (either (is_among ids id) (is_among (x ∷ []) id) (sym (among-append ids (x ∷ []) id) ∙ subst (λ z. is_among z id ≡ true) e m)) [
  | inl a ↦ q id d a l
  | inr b ↦ (let s : d ≡ c = some-same d c (sym l ∙ ap (λ z. live_clause store z) (among-one x id b) ∙ live) in let P : List Lit → Type 0 = IsInactive assigned in subst P (sym s) one)
]

is-some : {A : Type 0} (o : Option A) (x : A) → o ≡ Some x → IsSome o
is-some None x e = absurd (cc)
is-some (Some y) x e = refl

-- a number that isn't that of a live clause
pub quiet-skip : (store : Store) (assigned : List Lit) (ids now : List ℕ) (x : ℕ) → now ≡ ids ++ x ∷ [] → InactiveAmong store assigned ids → (IsSome (live_clause store x) → ⊥) → InactiveAmong store assigned now
quiet-skip store assigned ids now x e q none id d m l = elim (either (is_among ids id) (is_among (x ∷ []) id) (sym (among-append ids (x ∷ []) id) ∙ subst (λ z. is_among z id ≡ true) e m)) [
  | inl a ↦ q id d a l
  | inr b ↦ (let s : live_clause store x ≡ Some d = ap (λ z. live_clause store z) (sym (among-one x id b)) ∙ l in absurd (none (is-some (live_clause store x) d s)))
]

false-none : (assigned ls : List Lit) → status_in assigned ls ≡ clause_status.False → ls ≡ []
false-none assigned [] e = refl
false-none assigned (l ∷ ls) e = elim (told (not (is_assigned assigned l) && list_all (same_lit l) ls)) [ inl y ↦ (let z = rw y at e in absurd (cc)) | inr n ↦ (let z = rw n at e in absurd (cc)) ]

pub clause_status-false : (assigned c : List Lit) → status_of assigned c ≡ clause_status.False → open_lits assigned c ≡ []
clause_status-false assigned c e = false-none assigned (open_lits assigned c) e

unit-in : (assigned ls : List Lit) (u : Lit) → status_in assigned ls ≡ clause_status.Unit u → only_one assigned ls ≡ Some u
unit-in assigned [] u e = absurd (cc)
unit-in assigned (l ∷ ls) u e = elim (told (not (is_assigned assigned l) && list_all (same_lit l) ls)) [ inl y ↦ (let z = rw y at e in rw y (ap Some (cc))) | inr n ↦ (let z = rw n at e in absurd (cc)) ]

pub clause_status-unit : (assigned c : List Lit) (u : Lit) → status_of assigned c ≡ clause_status.Unit u → unit_of assigned c ≡ Some u
clause_status-unit assigned c u e = unit-in assigned (open_lits assigned c) u e

quiet-in : (assigned c ls : List Lit) → open_lits assigned c ≡ ls → status_in assigned ls ≡ clause_status.Inactive → IsInactive assigned c
quiet-in assigned c [] o e = absurd (cc)
quiet-in assigned c (l ∷ ls) o e = elim (told (not (is_assigned assigned l) && list_all (same_lit l) ls)) [
  | inl y ↦ (let z = rw y at e in absurd (cc))
  | inr n ↦ record { not_false = λ f. (let g : l ∷ ls ≡ [] = sym o ∙ f in cc); not_unit = rw (o, n) refl }
]

pub clause_status-quiet : (assigned c : List Lit) → status_of assigned c ≡ clause_status.Inactive → IsInactive assigned c
clause_status-quiet assigned c e = quiet-in assigned c (open_lits assigned c) refl e

take-whole : (ids : List ℕ) (i : ℕ) → length ids ≤ i → take i ids ≡ ids
take-whole [] zero h = refl
take-whole [] (suc i) h = refl
take-whole (x ∷ xs) zero h = absurd (omega arith)
take-whole (x ∷ xs) (suc i) h = ap (λ z. x ∷ z) (take-whole xs i (omega arith))

pub quiet-end : (store : Store) (assigned : List Lit) (ids : List ℕ) (i : ℕ) → length ids ≤ i → InactiveAmong store assigned (take i ids) → InactiveAmong store assigned ids
quiet-end store assigned ids i h q = let P : List ℕ → Type 0 = InactiveAmong store assigned in subst P (take-whole ids i h) q
