-- What follows of variables where a clause is false, or true.
use Rattle.std.proofs.Common.{◌≡◌, ℕ, zero, suc, inl, Bool, true, false, not, List, refl, sym, subst, ◌∙◌, true≢false}
use Rattle.std.specs.List.{list_any}
use Rattle.rail_base.specs.declared.plan.Command.{Command}
use Rattle.rail_base.proofs.Members.{In, list_any_gives, list_any_from, false_unless}
use Rattle.clause_spec.specs.Variables.{Variable, Given, Literal, yes, no, if_given}
use Rattle.clause_spec.specs.Models.{literal_holds, holds, given_by}

pub true_unless : (b : Bool) → (b ≡ false → ⊥) → b ≡ true
true_unless true h = refl
true_unless false h = absurd (h refl)

pub not_false : (b : Bool) → not b ≡ false → b ≡ true
not_false true h = refl
not_false false h = absurd (true≢false h)

all_false : {X : Type 0} (test : X → Bool) (xs : List X) (x : X) → list_any test xs ≡ false → In x xs → test x ≡ false
all_false test xs x h m = false_unless (test x) (λ t. true≢false (sym (list_any_from test xs x m t) ∙ h))

-- no literal is true
pub record Fails (says : Variable → Bool) (ls : List Literal) : Type 0 where
  pub is : holds says ls ≡ false

-- a clause holds where it can't fail
pub at_clause : {ls cl : List Literal} (says : Variable → Bool) → ls ≡ cl → (Fails says ls → ⊥) → holds says cl ≡ true
at_clause {ls} says e h = subst (λ x. holds says x ≡ true) e (true_unless (holds says ls) (λ f. h (record { is = f })))

pub no_false : {ls : List Literal} (says : Variable → Bool) (v : Variable) → Fails says ls → In (no v) ls → says v ≡ true
no_false {ls} says v h m = not_false (says v) (all_false (literal_holds says) ls (no v) h.is m)

pub yes_false : {ls : List Literal} (says : Variable → Bool) (v : Variable) → Fails says ls → In (yes v) ls → says v ≡ false
yes_false {ls} says v h m = all_false (literal_holds says) ls (yes v) h.is m

pub if_given_false : {ls : List Literal} (says : Variable → Bool) (c : Command) (i : ℕ) → Fails says ls → ((l : Literal) → In l (if_given c i) → In l ls) → given_by says c i ≡ false
if_given_false says c zero h m = refl
if_given_false says c (suc i) h m = yes_false says (Given c (suc i)) h (m (yes (Given c (suc i))) (inl refl))

pub some_true : (says : Variable → Bool) (ls : List Literal) → holds says ls ≡ true → (l : Literal) × In l ls × (literal_holds says l ≡ true)
some_true says ls h = list_any_gives (literal_holds says) ls h
