-- Numbers that grow evenly with the number of steps, from one step on.
use Rattle.std.proofs.Common.{◌≡◌, ℕ, zero, suc, ◌+◌, ◌-◌, ◌*◌, List, [], ◌∷◌, ◌++◌, map, flat_map, length, sum_by, refl, sym, ap, ◌∙◌, arith, suc-mul, zero-mul}
use Rattle.std.proofs.lemmas.List.Sums.{sum_by-cons, sum_by-append, sum_by_push}
use Rattle.rail_base.specs.Numbering.{count_from, one_to}
use Rattle.clause_spec.specs.Clauses.{literals}
use Rattle.clause_spec.proofs.Lists.{one_to-push, sum_by-map}

-- with each step more it is the same number more
pub record Even (f : ℕ → ℕ) : Type 0 where
  pub each : ℕ
  pub next : (m : ℕ) → f (suc (suc m)) ≡ f (suc m) + each

-- ---- sums

pub same_sums : {X : Type 0} (f g : X → ℕ) (xs : List X) → ((x : X) → f x ≡ g x) → sum_by f xs ≡ sum_by g xs
same_sums f g [] same = refl
same_sums f g (x ∷ xs) same =
    let a = sum_by-cons f x xs in
    let b = sum_by-cons g x xs in
    let c = same x in
    let rest = same_sums f g xs same in
    omega arith

-- the same number for each of as many numbers
pub same_counts : (k a b n : ℕ) → sum_by (λ i. k) (count_from a n) ≡ sum_by (λ i. k) (count_from b n)
same_counts k a b zero = refl
same_counts k a b (suc n) =
    let one = sum_by-cons (λ (i : ℕ). k) a (count_from (a + 1) n) in
    let other = sum_by-cons (λ (i : ℕ). k) b (count_from (b + 1) n) in
    let rest = same_counts k (a + 1) (b + 1) n in
    omega arith

pub literals-map : {X Y : Type 0} (f : X → List Y) (xs : List X) → literals (map f xs) ≡ sum_by (λ x. length (f x)) xs
literals-map {X} {Y} f xs = sum_by-map (λ (ls : List Y). length ls) f xs

pub literals-append : {Y : Type 0} (cs more : List (List Y)) → literals (cs ++ more) ≡ literals cs + literals more
literals-append {Y} cs more = sum_by-append (λ (ls : List Y). length ls) cs more

pub literals-cons : {Y : Type 0} (c : List Y) (cs : List (List Y)) → literals (c ∷ cs) ≡ length c + literals cs
literals-cons {Y} c cs = sum_by-cons (λ (ls : List Y). length ls) c cs

pub literals-flat_map : {X Y : Type 0} (f : X → List (List Y)) (xs : List X) → literals (flat_map f xs) ≡ sum_by (λ x. literals (f x)) xs
literals-flat_map f [] = refl
literals-flat_map {X} f (x ∷ xs) =
    let a = literals-append (f x) (flat_map f xs) in
    let b = sum_by-cons (λ (z : X). literals (f z)) x xs in
    let rest = literals-flat_map f xs in
    omega arith

-- ---- numbers that grow evenly

pub even_like : (f g : ℕ → ℕ) → ((n : ℕ) → g n ≡ f n) → Even f → Even g
even_like f g same e = record {
  each = e.each;
  next = λ m. same (suc (suc m)) ∙ (e.next m ∙ ap (λ k. k + e.each) (sym (same (suc m))));
}

pub even_still : (f : ℕ → ℕ) (k : ℕ) → ((n : ℕ) → f n ≡ k) → Even f
even_still f k still = record { each = 0; next = λ m. let a = still (suc (suc m)) in let b = still (suc m) in omega arith }

pub even_both : (f g : ℕ → ℕ) → Even f → Even g → Even (λ n. f n + g n)
even_both f g a b = record { each = a.each + b.each; next = λ m. let p = a.next m in let q = b.next m in omega arith }

-- a sum of such numbers
pub even_sum : {X : Type 0} (f : ℕ → X → ℕ) (xs : List X) → ((x : X) → Even (λ n. f n x)) → Even (λ n. sum_by (f n) xs)
even_sum f [] each = even_still (λ n. 0) 0 (λ n. refl)
even_sum f (x ∷ xs) each =
    even_like (λ n. f n x + sum_by (f n) xs) (λ n. sum_by (f n) (x ∷ xs)) (λ n. sum_by-cons (f n) x xs)
    (even_both (λ n. f n x) (λ n. sum_by (f n) xs) (each x) (even_sum f xs each))

-- a number for each step, the same for all but the first
pub even_steps : (f : ℕ → ℕ) (each : ℕ) → ((i : ℕ) → f (suc (suc i)) ≡ each) → Even (λ n. sum_by f (one_to n))
even_steps f each is = record {
  each = each;
  next = λ m.
      ap (λ (is : List ℕ). sum_by f is) (one_to-push (suc m))
      ∙ (sum_by_push f (one_to (suc m)) (suc (suc m)) ∙ ap (λ k. sum_by f (one_to (suc m)) + k) (is m));
}

-- a number for each step but the last, the same for all
pub even_fewer : (f : ℕ → ℕ) (each : ℕ) → ((i : ℕ) → f (suc i) ≡ each) → Even (λ n. sum_by f (one_to (n - 1)))
even_fewer f each is = record {
  each = each;
  next = λ m.
      let all : suc (suc m) - 1 ≡ suc m = omega arith in
      let fewer : suc m - 1 ≡ m = omega arith in
      ap (λ k. sum_by f (one_to k)) all
      ∙ (ap (λ (is : List ℕ). sum_by f is) (one_to-push m)
      ∙ (sum_by_push f (one_to m) (suc m)
      ∙ (ap (λ k. sum_by f (one_to m) + k) (is m) ∙ ap (λ k. sum_by f (one_to k) + each) (sym fewer))));
}

-- ---- literals that do

pub even_append : {Y : Type 0} (f g : ℕ → List (List Y)) → Even (λ n. literals (f n)) → Even (λ n. literals (g n)) → Even (λ n. literals (f n ++ g n))
even_append f g a b =
    even_like (λ n. literals (f n) + literals (g n)) (λ n. literals (f n ++ g n)) (λ n. literals-append (f n) (g n))
    (even_both (λ n. literals (f n)) (λ n. literals (g n)) a b)

-- what each of these has
pub even_each : {X Y : Type 0} (f : ℕ → X → List (List Y)) (xs : List X) → ((x : X) → Even (λ n. literals (f n x))) → Even (λ n. literals (flat_map (f n) xs))
even_each f xs each =
    even_like (λ n. sum_by (λ x. literals (f n x)) xs) (λ n. literals (flat_map (f n) xs)) (λ n. literals-flat_map (f n) xs)
    (even_sum (λ n x. literals (f n x)) xs each)

-- ---- with m steps more

pub evenly : (f : ℕ → ℕ) → Even f → (m : ℕ) → f (m + 1) ≡ f 1 + m * (f 2 - f 1)
evenly f e zero = let none = zero-mul (f 2 - f 1) in omega arith
evenly f e (suc m) =
    let second : f 2 ≡ f 1 + e.each = e.next 0 in
    let here : f (suc m + 1) ≡ f (suc (suc m)) = ap f (omega arith) in
    let one_fewer : f (suc m) ≡ f (m + 1) = ap f (omega arith) in
    let next = e.next m in
    let rest = evenly f e m in
    let more = suc-mul m (f 2 - f 1) in
    omega arith
