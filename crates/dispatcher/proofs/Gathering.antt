-- Queues and lists of waits, one write further.
use Rattle.std.proofs.Common.{◌≡◌, ℕ, zero, suc, ◌+◌, ◌-◌, ◌≤◌, ◌<◌, inl, inr, Bool, true, false, cond, ◌&&◌, ◌||◌, ◌==◌, if◌then◌else◌, List, [], ◌∷◌, ◌++◌, map, filter, take, length, get_or, set, refl, sym, ap, subst, ◌∙◌, arith, append_assoc}
use Rattle.std.specs.List.{list_any}
use Rattle.std.proofs.lemmas.List.{append-nil, map-append, take_more, get_or-set_same, get_or-set_other, get_or_default}
use Rattle.std.proofs.lemmas.List.Folds.{list_any_more}
use Rattle.std.proofs.lemmas.Bool.Decides.{eqb_tells}
use Rattle.rail_base.specs.Numbering.{entry}
use Rattle.rail_base.proofs.Members.{filter-append}

-- ---- one of some lists is written

pub entry_edit : {X : Type 0} (lists : List (List X)) (m place : ℕ) (old new : List X) (f : List X → List X) → 1 ≤ m → m ≤ length lists → place ≡ m - 1 → old ≡ get_or lists place old → new ≡ f old
    → (n : ℕ) → entry [] (set lists place new) n ≡ (if m == n then f (entry [] lists n) else entry [] lists n)
entry_edit {X} lists m place old new f low high at is made n = elim (eqb_tells m n) [
  | inl p ↦ (let same : suc place ≡ n = (let e = p.1 in omega arith) in
      subst (λ k. entry [] (set lists place new) k ≡ f (entry [] lists k)) same
      (get_or-set_same lists place new [] (omega arith) ∙ made ∙ ap f (is ∙ get_or_default lists place old [] (omega arith)))
      ∙ sym (ap (λ b. if b then f (entry [] lists n) else entry [] lists n) p.0))
  | inr p ↦ other n p.1 ∙ sym (ap (λ b. if b then f (entry [] lists n) else entry [] lists n) p.0)
]
  where
    other : (n : ℕ) → (m ≡ n → ⊥) → entry [] (set lists place new) n ≡ entry [] lists n
    other zero differ = refl
    other (suc j) differ = get_or-set_other lists place j new [] (λ e. differ (omega arith))

-- ---- empty lists

pub entry_none : {X : Type 0} (n : ℕ) → entry {X = List X} [] [] n ≡ []
entry_none zero = refl
entry_none (suc j) = refl

-- one more
pub entry_empty : {X : Type 0} (lists : List (List X)) → ((n : ℕ) → entry [] lists n ≡ []) → (n : ℕ) → entry [] (lists ++ [] ∷ []) n ≡ []
entry_empty lists h zero = refl
entry_empty [] h (suc zero) = refl
entry_empty [] h (suc (suc j)) = refl
entry_empty (x ∷ xs) h (suc zero) = h 1
entry_empty {X} (x ∷ xs) h (suc (suc j)) = entry_empty xs later (suc j)
  where
    later : (n : ℕ) → entry [] xs n ≡ []
    later zero = refl
    later (suc i) = h (suc (suc i))

-- ---- queues of which something is left

once_left : {Y : Type 0} (f : List Y → List Y) → ((ys : List Y) → f (f ys) ≡ f ys) → (b t : Bool) (new old first : List Y) → new ≡ (if t then f old else old) → old ≡ (if b then f first else first) → new ≡ (if b || t then f first else first)
once_left f twice true true new old first e g = e ∙ ap f g ∙ twice first
once_left f twice true false new old first e g = e ∙ g
once_left f twice false true new old first e g = e ∙ ap f g
once_left f twice false false new old first e g = e ∙ g

pub left_more : {X Y : Type 0} (f : List Y → List Y) → ((ys : List Y) → f (f ys) ≡ f ys) → (test : X → Bool) (xs : List X) (i : ℕ) (other : X) → i < length xs → (new old first : List Y) → new ≡ (if test (get_or xs i other) then f old else old) → old ≡ (if list_any test (take i xs) then f first else first)
    → new ≡ (if list_any test (take (i + 1) xs) then f first else first)
left_more f twice test xs i other h new old first e before =
    once_left f twice (list_any test (take i xs)) (test (get_or xs i other)) new old first e before ∙ sym (ap (λ b. if b then f first else first) (list_any_more test xs i other h))

pub filter-filter : {X : Type 0} (p q : X → Bool) (xs : List X) → filter p (filter q xs) ≡ filter (λ x. q x && p x) xs
filter-filter p q [] = refl
filter-filter {X} p q (x ∷ xs) = go (q x) (p x) refl (filter-filter p q xs)
  where
    go : (a b : Bool) → p x ≡ b → filter p (filter q xs) ≡ filter (λ y. q y && p y) xs → filter p (cond a (x ∷ filter q xs) (filter q xs)) ≡ cond (a && b) (x ∷ filter (λ y. q y && p y) xs) (filter (λ y. q y && p y) xs)
    go true true e rest = ap (λ b. cond b (x ∷ filter p (filter q xs)) (filter p (filter q xs))) e ∙ ap (λ ys. x ∷ ys) rest
    go true false e rest = ap (λ b. cond b (x ∷ filter p (filter q xs)) (filter p (filter q xs))) e ∙ rest
    go false b e rest = rest

pub filter-same : {X : Type 0} (p q : X → Bool) (xs : List X) → ((x : X) → p x ≡ q x) → filter p xs ≡ filter q xs
filter-same p q [] h = refl
filter-same p q (x ∷ xs) h = ap (λ b. cond b (x ∷ filter p xs) (filter p xs)) (h x) ∙ ap (λ ys. cond (q x) (x ∷ ys) ys) (filter-same p q xs h)

both_so : (a : Bool) → (a && a) ≡ a
both_so true = refl
both_so false = refl

pub filter-twice : {X : Type 0} (p : X → Bool) (xs : List X) → filter p (filter p xs) ≡ filter p xs
filter-twice p xs = filter-filter p p xs ∙ filter-same (λ x. p x && p x) p xs (λ x. both_so (p x))

-- ---- queues that are filled

pub filter_more : {X : Type 0} (test : X → Bool) (xs : List X) (i : ℕ) (other : X) → i < length xs → filter test (take (i + 1) xs) ≡ filter test (take i xs) ++ cond (test (get_or xs i other)) (get_or xs i other ∷ []) []
filter_more test xs i other h = ap (filter test) (take_more xs i other h) ∙ filter-append test (take i xs) (get_or xs i other ∷ [])

pub filled_more : {X Y : Type 0} (f : X → Y) (test : X → Bool) (xs : List X) (i : ℕ) (other : X) → i < length xs → (new old first : List Y) → new ≡ (if test (get_or xs i other) then old ++ f (get_or xs i other) ∷ [] else old) → old ≡ first ++ map f (filter test (take i xs))
    → new ≡ first ++ map f (filter test (take (i + 1) xs))
filled_more {X} {Y} f test xs i other h new old first e before =
    e ∙ go (test x) ∙ ap (λ ys. first ++ map f ys) (sym (filter_more test xs i other h))
  where
    x : X
    x = get_or xs i other

    kept : List X
    kept = filter test (take i xs)

    go : (b : Bool) → (if b then old ++ f x ∷ [] else old) ≡ first ++ map f (kept ++ cond b (x ∷ []) [])
    go true = ap (λ ys. ys ++ f x ∷ []) before ∙ append_assoc first (map f kept) (f x ∷ []) ∙ ap (λ ys. first ++ ys) (sym (map-append f kept (x ∷ [])))
    go false = before ∙ ap (λ ys. first ++ map f ys) (sym (append-nil kept))

-- ---- lists by their numbers

-- a list by its number
pub entry_at : {X : Type 0} (lists : List (List X)) (n place : ℕ) (x : List X) → 1 ≤ n → n ≤ length lists → place ≡ n - 1 → x ≡ get_or lists place x → entry [] lists n ≡ x
entry_at lists zero place x low high at is = absurd (omega arith)
entry_at lists (suc j) place x low high at is =
    let same : place ≡ j = omega arith in
    ap (λ k. get_or lists k []) (sym same) ∙ get_or_default lists place [] x (omega arith) ∙ sym is

-- what is within one list's length is within that of another as long
pub at_most : (a n m : ℕ) → n ≡ m → a ≤ m → a ≤ n
at_most a n m e h = subst (λ k. a ≤ k) (sym e) h
