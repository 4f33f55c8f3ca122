-- Routes that may come earlier than another.
use Rattle.std.proofs.Common.{◌≡◌, ℕ, zero, suc, ◌<◌, length, get_or, arith, Bool, true, false, not, ◌&&◌, ◌||◌, ◌==◌, List, [], ◌∷◌, refl, sym, ap₂, eqb-true, eq-eqb}
use Rattle.std.specs.List.{list_all}
use Rattle.rail_base.specs.Members.{all_neighbors}
use Rattle.rail_base.proofs.Members.{and_left, and_right, same_bool}
use Rattle.bound_spec.specs.declared.Leg.{Leg}
use Rattle.bound_spec.specs.Validity.{legs_before_last}

pub turned : (a b : ℕ) → (a == b) ≡ (b == a)
turned a b = same_bool (a == b) (b == a) (λ h. eq-eqb b a (sym (eqb-true a b h))) (λ h. eq-eqb a b (sym (eqb-true b a h)))

pub all_true : {X : Type 0} (f : X → Bool) (xs : List X) → ((x : X) → f x ≡ true) → true ≡ list_all f xs
all_true f [] h = refl
all_true f (x ∷ xs) h = ap₂ (λ a b. a && b) (sym (h x)) (all_true f xs h)

pub never_earlier : (a b e f : Bool) → f ≡ true → (a || not b || not (e && not f)) ≡ true
never_earlier a b e false h = absurd (cc)
never_earlier true b e true h = refl
never_earlier false false e true h = refl
never_earlier false true true true h = refl
never_earlier false true false true h = refl

pub earlier : (a b e f : Bool) → f ≡ false → (not (b && e) || (a || false) || false) ≡ (a || not b || not (e && not f))
earlier a b e true h = absurd (cc)
earlier true true true false h = refl
earlier true true false false h = refl
earlier true false e false h = refl
earlier false true true false h = refl
earlier false true false false h = refl
earlier false false e false h = refl

pub at_end : (m e : Bool) → (not (m && not e) || false || false) ≡ (not m || e)
at_end true true = refl
at_end true false = refl
at_end false e = refl

-- the legs but the last are those that have a neighbor behind them
pub before_last : (f : Leg → Bool) (ls : List Leg) → all_neighbors (λ l m. f l) ls ≡ list_all f (legs_before_last ls)
before_last f [] = refl
before_last f (l ∷ []) = refl
before_last f (l ∷ m ∷ ls) = ap₂ (λ a b. a && b) refl (before_last f (m ∷ ls))

-- a member of those that all pass
pub passes_at : {X : Type 0} (test : X → Bool) (xs : List X) (i : ℕ) (x : X) → list_all test xs ≡ true → i < length xs → test (get_or xs i x) ≡ true
passes_at test [] i x h l = absurd (omega arith)
passes_at test (y ∷ ys) zero x h l = and_left (test y) (list_all test ys) h
passes_at test (y ∷ ys) (suc i) x h l = passes_at test ys i x (and_right (test y) (list_all test ys) h) (omega arith)
