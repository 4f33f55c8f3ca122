-- The first of numbered things that passes a test.
use Rattle.std.proofs.Common.{◌≡◌, ℕ, zero, suc, ◌+◌, Bool, true, false, cond, List, [], ◌∷◌, ◌++◌, map, length, slice_get, Option, None, Some, option_map, find, MatchOption, refl, sym, ap, ap₂, ◌∙◌, arith, inl, inr}
use Rattle.std.specs.List.{position_from}
use Rattle.rail_base.specs.Numbering.{count_from, one_to, entry}
use Rattle.rail_base.specs.Members.{In}

-- the first of what is made of the numbers is at the number of the first that passes
pub find-numbered : {X Y : Type 0} (certain : Y → Bool) (way : ℕ → Y) (test : X → Bool) (a : ℕ) (xs : List X) → ((i : ℕ) (x : X) → slice_get xs i ≡ Some x → certain (way (a + i)) ≡ test x)
    → find certain (map way (count_from a (length xs))) ≡ option_map way (position_from test a xs)
find-numbered certain way test a [] same = refl
find-numbered {X} {Y} certain way test a (x ∷ xs) same =
    go (certain (way a)) (test x) (ap (λ n. certain (way n)) (let e : a ≡ a + 0 = omega arith in e) ∙ same 0 x refl)
    (find-numbered certain way test (a + 1) xs (λ i y g. ap (λ n. certain (way n)) (let e : a + 1 + i ≡ a + suc i = omega arith in e) ∙ same (suc i) y g))
  where
    go : (b c : Bool) → b ≡ c → find certain (map way (count_from (a + 1) (length xs))) ≡ option_map way (position_from test (a + 1) xs)
        → cond b (Some (way a)) (find certain (map way (count_from (a + 1) (length xs)))) ≡ option_map way (cond c (Some a) (position_from test (a + 1) xs))
    go true true e later = refl
    go false false e later = later
    go true false e later = cc
    go false true e later = cc

pub position_from-next : {X : Type 0} (test : X → Bool) (a : ℕ) (xs : List X) → position_from test (a + 1) xs ≡ option_map (λ i. i + 1) (position_from test a xs)
position_from-next test a [] = refl
position_from-next test a (x ∷ xs) = go (test x) (position_from-next test (a + 1) xs)
  where
    go : (b : Bool) → position_from test (a + 1 + 1) xs ≡ option_map (λ i. i + 1) (position_from test (a + 1) xs) → cond b (Some (a + 1)) (position_from test (a + 1 + 1) xs) ≡ option_map (λ i. i + 1) (cond b (Some a) (position_from test (a + 1) xs))
    go true e = refl
    go false e = e

-- the number of the first that passes is one more than its place
pub number-place : {X : Type 0} (test : X → Bool) (xs : List X) (place : Option ℕ) → place ≡ position_from test 0 xs → option_map (λ i. i + 1) place ≡ position_from test 1 xs
number-place test xs place e = ap (option_map (λ i. i + 1)) e ∙ sym (position_from-next test 0 xs)

pub found : {X Y : Type 0} (certain : Y → Bool) (way : ℕ → Y) (test : X → Bool) (xs : List X) (place : Option ℕ) → place ≡ position_from test 0 xs → ((i : ℕ) (x : X) → slice_get xs i ≡ Some x → certain (way (suc i)) ≡ test x)
    → option_map (λ i. way (i + 1)) place ≡ find certain (map way (one_to (length xs)))
found {X} {Y} certain way test xs place e same =
    twice place ∙ ap (option_map way) (number-place test xs place e) ∙ sym (find-numbered certain way test 1 xs (λ i x g. ap (λ n. certain (way n)) (let e : 1 + i ≡ suc i = omega arith in e) ∙ same i x g))
  where
    twice : (o : Option ℕ) → option_map (λ i. way (i + 1)) o ≡ option_map way (option_map (λ i. i + 1) o)
    twice None = refl
    twice (Some i) = refl

-- in two lists in a row it is that of the first, and else that of the second
pub find-append_none : {X : Type 0} (test : X → Bool) (xs ys : List X) → find test xs ≡ None → find test (xs ++ ys) ≡ find test ys
find-append_none test [] ys h = refl
find-append_none {X} test (x ∷ xs) ys h = go (test x) h (find-append_none test xs ys)
  where
    go : (b : Bool) → cond b (Some x) (find test xs) ≡ None → (find test xs ≡ None → find test (xs ++ ys) ≡ find test ys) → cond b (Some x) (find test (xs ++ ys)) ≡ find test ys
    go true e later = cc
    go false e later = later e

pub find-append_some : {X : Type 0} (test : X → Bool) (xs ys : List X) (y : X) → find test xs ≡ Some y → find test (xs ++ ys) ≡ Some y
find-append_some test [] ys y h = cc
find-append_some {X} test (x ∷ xs) ys y h = go (test x) h (find-append_some test xs ys y)
  where
    go : (b : Bool) → cond b (Some x) (find test xs) ≡ Some y → (find test xs ≡ Some y → find test (xs ++ ys) ≡ Some y) → cond b (Some x) (find test (xs ++ ys)) ≡ Some y
    go true e later = e
    go false e later = later e

pub find-none : {X : Type 0} (test : X → Bool) (xs : List X) → ((x : X) → In x xs → test x ≡ false) → find test xs ≡ None
find-none test [] h = refl
find-none test (x ∷ xs) h = ap (λ b. cond b (Some x) (find test xs)) (h x (inl refl)) ∙ find-none test xs (λ y m. h y (inr m))

pub find-same : {X : Type 0} (test other : X → Bool) (xs : List X) → ((x : X) → In x xs → test x ≡ other x) → find test xs ≡ find other xs
find-same test other [] h = refl
find-same test other (x ∷ xs) h = ap₂ (λ b o. cond b (Some x) o) (h x (inl refl)) (find-same test other xs (λ y m. h y (inr m)))

-- an entry, by the place at which it stands
pub entry-get : {X : Type 0} (other : X) (xs : List X) (i : ℕ) (x : X) → slice_get xs i ≡ Some x → entry other xs (suc i) ≡ x
entry-get other [] i x h = cc
entry-get other (y ∷ ys) zero x h = cc
entry-get other (y ∷ ys) (suc i) x h = entry-get other ys i x h

-- where each search goes on only where the one before found nothing
pub find-or_else : {X : Type 0} (test : X → Bool) (xs ys : List X) (first both : Option X) → first ≡ find test xs → MatchOption first (both ≡ find test ys) (λ x. both ≡ Some x) → both ≡ find test (xs ++ ys)
find-or_else test xs ys None both e h = h ∙ sym (find-append_none test xs ys (sym e))
find-or_else test xs ys (Some x) both e h = h ∙ sym (find-append_some test xs ys x (sym e))
