-- Orders counted one after another, and what is found of each.
use Rattle.std.proofs.Common.{◌≡◌, ℕ, zero, suc, ◌+◌, ◌-◌, ◌≤◌, Bool, true, false, ◌||◌, List, [], ◌∷◌, ◌++◌, is_some, Option, None, Some, MatchOption, ap, ap₂, ◌∙◌, sym, arith, true≢false}
use Rattle.std.specs.List.{list_any}
use Rattle.rail_base.specs.Numbering.{count_from, one_to}

count_end : (a k : ℕ) → count_from a (suc k) ≡ count_from a k ++ ((a + k) ∷ [])
count_end a zero = ap (λ n. n ∷ []) (let same : a ≡ a + 0 = omega arith in same)
count_end a (suc k) = ap (λ xs. a ∷ xs) (count_end (a + 1) k ∙ ap (λ n. count_from (a + 1) k ++ (n ∷ [])) (let same : a + 1 + k ≡ a + suc k = omega arith in same))

-- the numbers up to one, and it
pub one_further : (e : ℕ) → 1 ≤ e → one_to (e + 1 - 1) ≡ one_to (e - 1) ++ (e ∷ [])
one_further zero some = absurd (omega arith)
one_further (suc k) some =
    ap (count_from 1) (let same : suc k + 1 - 1 ≡ suc k = omega arith in same)
    ∙ (count_end 1 k ∙ ap₂ (λ m n. count_from 1 m ++ (n ∷ [])) (let same : k ≡ suc k - 1 = omega arith in same) (let same : 1 + k ≡ suc k = omega arith in same))

pub none_further : {X : Type 0} (test : X → Bool) (xs : List X) (x : X) → list_any test xs ≡ false → test x ≡ false → list_any test (xs ++ (x ∷ [])) ≡ false
none_further test [] x none h = ap (λ b. b || false) h
none_further {X} test (y ∷ ys) x none h = go (test y) none (λ k. none_further test ys x k h)
  where
    go : (b : Bool) → (b || list_any test ys) ≡ false → (list_any test ys ≡ false → list_any test (ys ++ (x ∷ [])) ≡ false) → (b || list_any test (ys ++ (x ∷ []))) ≡ false
    go true k rest = absurd (true≢false k)
    go false k rest = rest k

-- what is known of an option that is there, and of one that is not
pub if_there : {X : Type 0} (o : Option X) (A : Type 0) (P : X → Type 0) → MatchOption o A P → is_some o ≡ true → (x : X) × P x
if_there None A P m h = absurd (cc)
if_there (Some x) A P m h = (x, m)

pub if_not_there : {X : Type 0} (o : Option X) (A : Type 0) (P : X → Type 0) → MatchOption o A P → is_some o ≡ false → A
if_not_there None A P m h = m
if_not_there (Some x) A P m h = absurd (cc)
