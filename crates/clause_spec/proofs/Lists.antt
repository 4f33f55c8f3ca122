-- Members of lists that are made of others, and sums over them.
use Rattle.std.proofs.Common.{◌≡◌, ℕ, zero, suc, ◌+◌, ◌-◌, ◌≤◌, ◌<◌, max, ◌⊎◌, inl, inr, Bool, true, false, cond, ◌&&◌, List, [], ◌∷◌, ◌++◌, map, flat_map, filter, length, refl, sym, ap, subst, ◌∙◌, arith, true≢false, Option, Some, None, append-nil}
use Rattle.std.proofs.lemmas.List.{append_assoc}
use Rattle.std.specs.Prelude.{fold, sum_by}
use Rattle.std.proofs.lemmas.List.Sums.{sum_by-cons}
use Rattle.std.specs.List.{list_all}
use Rattle.rail_base.specs.Numbering.{count_from, one_to}
use Rattle.rail_base.specs.Members.{all_pairs, all_neighbors}
use Rattle.rail_base.proofs.Members.{In, and_left, and_right, and_both, list_all_at, in_filter, below_or_not}
use Rattle.clause_spec.specs.Clauses.{later_pairs}
use Rattle.rail_base.proofs.Lists.{list_all_from, in_map_back, in_map, in_flat_map_back, in_filter_back, in_count_back, in_append_left, in_append_right, in_append}

-- ---- members

-- ---- distinct members, and sums

abbrev pub Distinct : {X : Type 0} → List X → Type 0
Distinct [] = Unit {0}
Distinct (x ∷ xs) = (In x xs → ⊥) × Distinct xs

pub record Split {X : Type 0} (weight : X → ℕ) (x : X) (ys : List X) : Type 0 where
  pub rest : List X
  pub total : sum_by weight ys ≡ weight x + sum_by weight rest
  pub others : (y : X) → In y ys → (y ≡ x → ⊥) → In y rest

split : {X : Type 0} (weight : X → ℕ) (x : X) (ys : List X) → In x ys → Split weight x ys
split weight x [] m = absurd m
split {X} weight x (y ∷ ys) (inl e) = record { rest = ys; total = sum_by-cons weight y ys ∙ ap (λ z. weight z + sum_by weight ys) e; others = others }
  where
    others : (z : X) → In z (y ∷ ys) → (z ≡ x → ⊥) → In z ys
    others z (inl f) apart = absurd (apart (sym f ∙ e))
    others z (inr n) apart = n
split {X} weight x (y ∷ ys) (inr m) = go (split weight x ys m)
  where
    go : Split weight x ys → Split weight x (y ∷ ys)
    go s = record { rest = y ∷ s.rest; total = (let a = sum_by-cons weight y ys in let b = sum_by-cons weight y s.rest in let c = s.total in omega arith); others = others }
      where
        others : (z : X) → In z (y ∷ ys) → (z ≡ x → ⊥) → In z (y ∷ s.rest)
        others z (inl f) apart = inl f
        others z (inr n) apart = inr (s.others z n apart)

-- distinct members that are all in another list don't sum to more
pub sum_among : {X : Type 0} (weight : X → ℕ) (xs ys : List X) → Distinct xs → ((x : X) → In x xs → In x ys) → sum_by weight xs ≤ sum_by weight ys
sum_among weight [] ys h m = omega arith
sum_among {X} weight (x ∷ xs) ys h m = go (split weight x ys (m x (inl refl))) (λ zs. sum_among weight xs zs h.1)
  where
    go : Split weight x ys → ((zs : List X) → ((y : X) → In y xs → In y zs) → sum_by weight xs ≤ sum_by weight zs) → sum_by weight (x ∷ xs) ≤ sum_by weight ys
    go s more =
        let a = sum_by-cons weight x xs in
        let b = s.total in
        let c = more s.rest (λ y n. s.others y (m y (inr n)) (λ e. h.0 (subst (λ w. In w xs) e n))) in
        omega arith

pub length-sum : {X : Type 0} (xs : List X) → sum_by (λ x. 1) xs ≡ length xs
length-sum [] = refl
length-sum {X} (x ∷ xs) = let one : X → ℕ = λ y. 1 in let a = sum_by-cons one x xs in let b = length-sum xs in omega arith

-- so there are no more of them
pub length_among : {X : Type 0} (xs ys : List X) → Distinct xs → ((x : X) → In x xs → In x ys) → length xs ≤ length ys
length_among {X} xs ys h m = let a = length-sum xs in let b = length-sum ys in let one : X → ℕ = λ y. 1 in let c = sum_among one xs ys h m in omega arith

pub distinct_filter : {X : Type 0} (test : X → Bool) (xs : List X) → Distinct xs → Distinct (filter test xs)
distinct_filter test [] h = tt
distinct_filter {X} test (x ∷ xs) h = go (test x) (distinct_filter test xs h.1)
  where
    go : (b : Bool) → Distinct (filter test xs) → Distinct (cond b (x ∷ filter test xs) (filter test xs))
    go true rest = ((λ m. h.0 (in_filter_back test xs x m).0), rest)
    go false rest = rest

-- ---- the greatest of numbers

greatest_more : (a : ℕ) (xs : List ℕ) → a ≤ fold max a xs
greatest_more a [] = omega arith
greatest_more a (x ∷ xs) = let h = greatest_more (max a x) xs in omega arith

-- what is below the greatest, or the first number, is below one of them
pub below_greatest : (a : ℕ) (xs : List ℕ) (s : ℕ) → s < fold max a xs → (s < a) ⊎ ((x : ℕ) × In x xs × (s < x))
below_greatest a [] s h = inl h
below_greatest a (y ∷ ys) s h = go (below_greatest (max a y) ys s h)
  where
    which : (b : Bool) → (s < a) ⊎ (a ≤ s) → (s < max a y) → (s < a) ⊎ ((x : ℕ) × In x (y ∷ ys) × (s < x))
    which b (inl k) l = inl k
    which b (inr k) l = inr (y, inl refl, omega arith)

    decide : (s < a) ⊎ (a ≤ s)
    decide = below_or_not s a

    go : (s < max a y) ⊎ ((x : ℕ) × In x ys × (s < x)) → (s < a) ⊎ ((x : ℕ) × In x (y ∷ ys) × (s < x))
    go (inl k) = which true decide k
    go (inr (x, m, k)) = inr (x, inr m, k)

-- ---- pairs

-- of two members that differ one comes before the other
pub all_pairs_at : {X : Type 0} (test : X → X → Bool) (xs : List X) (x y : X) → all_pairs test xs ≡ true → In x xs → In y xs → (x ≡ y) ⊎ ((test x y ≡ true) ⊎ (test y x ≡ true))
all_pairs_at test [] x y h m n = absurd m
all_pairs_at test (z ∷ zs) x y h (inl e) (inl f) = inl (sym e ∙ f)
all_pairs_at test (z ∷ zs) x y h (inl e) (inr n) = inr (inl (ap (λ w. test w y) (sym e) ∙ list_all_at (test z) zs y (and_left (list_all (test z) zs) (all_pairs test zs) h) n))
all_pairs_at test (z ∷ zs) x y h (inr m) (inl f) = inr (inr (ap (λ w. test w x) (sym f) ∙ list_all_at (test z) zs x (and_left (list_all (test z) zs) (all_pairs test zs) h) m))
all_pairs_at test (z ∷ zs) x y h (inr m) (inr n) = all_pairs_at test zs x y (and_right (list_all (test z) zs) (all_pairs test zs) h) m n

pub all_pairs_from : {X : Type 0} (test : X → X → Bool) (xs : List X) → Distinct xs → ((x y : X) → In x xs → In y xs → (x ≡ y → ⊥) → test x y ≡ true) → all_pairs test xs ≡ true
all_pairs_from test [] h k = refl
all_pairs_from {X} test (x ∷ xs) h k = and_both (list_all (test x) xs) (all_pairs test xs)
    (list_all_from (test x) xs (λ y m. k x y (inl refl) (inr m) (λ e. h.0 (subst (λ w. In w xs) (sym e) m))))
    (all_pairs_from test xs h.1 (λ y z m n. k y z (inr m) (inr n)))

list_all-map : {X Y : Type 0} (test : Y → Bool) (f : X → Y) (xs : List X) → list_all test (map f xs) ≡ list_all (λ x. test (f x)) xs
list_all-map test f [] = refl
list_all-map test f (x ∷ xs) = ap (λ b. test (f x) && b) (list_all-map test f xs)

pub all_pairs-map : {X Y : Type 0} (test : Y → Y → Bool) (f : X → Y) (xs : List X) → all_pairs test (map f xs) ≡ all_pairs (λ x y. test (f x) (f y)) xs
all_pairs-map test f [] = refl
all_pairs-map {X} test f (x ∷ xs) = let a = list_all-map (test (f x)) f xs in let b = all_pairs-map test f xs in
    ap (λ c. c && all_pairs test (map f xs)) a ∙ ap (λ c. list_all (λ y. test (f x) (f y)) xs && c) b

pub all_neighbors-map : {X Y : Type 0} (test : Y → Y → Bool) (f : X → Y) (xs : List X) → all_neighbors test (map f xs) ≡ all_neighbors (λ x y. test (f x) (f y)) xs
all_neighbors-map test f [] = refl
all_neighbors-map test f (x ∷ []) = refl
all_neighbors-map test f (x ∷ y ∷ xs) = ap (λ b. test (f x) (f y) && b) (all_neighbors-map test f (y ∷ xs))

pub in_later_from : {X : Type 0} (xs : List X) (x y : X) → In x xs → In y xs → (x ≡ y → ⊥) → In (x, y) (later_pairs xs) ⊎ In (y, x) (later_pairs xs)
in_later_from [] x y m n apart = absurd m
in_later_from (z ∷ zs) x y (inl e) (inl f) apart = absurd (apart (sym e ∙ f))
in_later_from {X} (z ∷ zs) x y (inl e) (inr n) apart =
    let with : X → X × X = λ w. (z, w) in
    inl (in_append_left (x, y) (map with zs) (later_pairs zs) (subst (λ w. In (w, y) (map with zs)) e (in_map with zs y n)))
in_later_from {X} (z ∷ zs) x y (inr m) (inl f) apart =
    let with : X → X × X = λ w. (z, w) in
    inr (in_append_left (y, x) (map with zs) (later_pairs zs) (subst (λ w. In (w, x) (map with zs)) f (in_map with zs x m)))
in_later_from {X} (z ∷ zs) x y (inr m) (inr n) apart = go (in_later_from zs x y m n apart)
  where
    with : X → X × X
    with w = (z, w)

    go : In (x, y) (later_pairs zs) ⊎ In (y, x) (later_pairs zs) → In (x, y) (later_pairs (z ∷ zs)) ⊎ In (y, x) (later_pairs (z ∷ zs))
    go (inl k) = inl (in_append_right (x, y) (map (λ w. (z, w)) zs) (later_pairs zs) k)
    go (inr k) = inr (in_append_right (y, x) (map (λ w. (z, w)) zs) (later_pairs zs) k)

pub record LaterPair {X : Type 0} (xs : List X) (p : X × X) : Type 0 where
  pub one : In p.0 xs
  pub other : In p.1 xs
  pub differ : p.0 ≡ p.1 → ⊥

pub in_later : {X : Type 0} (xs : List X) (p : X × X) → Distinct xs → In p (later_pairs xs) → LaterPair xs p
in_later [] p h m = absurd m
in_later {X} (z ∷ zs) p h m = go (in_append p (map (λ w. (z, w)) zs) (later_pairs zs) m) (in_later zs p h.1)
  where
    with : X → X × X
    with w = (z, w)

    first : (w : X) × In w zs × ((z, w) ≡ p) → LaterPair (z ∷ zs) p
    first (w, n, e) = let a : z ≡ p.0 = ap (λ q. q.0) e in let b : w ≡ p.1 = ap (λ q. q.1) e in
        record { one = inl a; other = inr (subst (λ v. In v zs) b n); differ = λ f. h.0 (subst (λ v. In v zs) (b ∙ sym f ∙ sym a) n) }

    go : In p (map (λ w. (z, w)) zs) ⊎ In p (later_pairs zs) → (In p (later_pairs zs) → LaterPair zs p) → LaterPair (z ∷ zs) p
    go (inl k) rest = first (in_map_back (λ w. (z, w)) zs p k)
    go (inr k) rest = let r = rest k in record { one = inr r.one; other = inr r.other; differ = r.differ }

pub sum_by-map : {X Y : Type 0} (weight : Y → ℕ) (f : X → Y) (xs : List X) → sum_by weight (map f xs) ≡ sum_by (λ x. weight (f x)) xs
sum_by-map weight f [] = refl
sum_by-map {X} weight f (x ∷ xs) =
    let w : X → ℕ = λ y. weight (f y) in
    sum_by-cons weight (f x) (map f xs) ∙ (ap (λ s. weight (f x) + s) (sum_by-map weight f xs) ∙ sym (sum_by-cons w x xs))

pub distinct_from : {X : Type 0} (test : X → X → Bool) (xs : List X) → ((x : X) → test x x ≡ false) → all_pairs test xs ≡ true → Distinct xs
distinct_from test [] none h = tt
distinct_from test (x ∷ xs) none h = (
  (λ m. true≢false (sym (list_all_at (test x) xs x (and_left (list_all (test x) xs) (all_pairs test xs) h) m) ∙ none x)),
  distinct_from test xs none (and_right (list_all (test x) xs) (all_pairs test xs) h),
)

pub distinct_count : (a n : ℕ) → Distinct (count_from a n)
distinct_count a zero = tt
distinct_count a (suc n) = ((λ m. let r = in_count_back (a + 1) n a m in let low = r.0 in absurd (omega arith)), distinct_count (a + 1) n)

pub distinct_map : {X Y : Type 0} (f : X → Y) (xs : List X) → ((x y : X) → f x ≡ f y → x ≡ y) → Distinct xs → Distinct (map f xs)
distinct_map f [] one h = tt
distinct_map f (x ∷ xs) one h =
    ((λ m. let r = in_map_back f xs (f x) m in h.0 (subst (λ w. In w xs) (one r.0 x r.2) r.1)), distinct_map f xs one h.1)

-- what is below the greatest of some numbers and another together is below one of them and the other
pub below_one : (xs : List ℕ) (more s x : ℕ) → In x xs → s < fold max 0 xs + more → (y : ℕ) × In y xs × (s < y + more)
below_one xs more s x m h = go (below_or_not s more)
  where
    some : (s - more < 0) ⊎ ((y : ℕ) × In y xs × (s - more < y)) → more ≤ s → (y : ℕ) × In y xs × (s < y + more)
    some (inl k) l = absurd (omega arith)
    some (inr (y, n, k)) l = (y, n, omega arith)

    go : (s < more) ⊎ (more ≤ s) → (y : ℕ) × In y xs × (s < y + more)
    go (inl k) = (x, m, omega arith)
    go (inr k) = some (below_greatest 0 xs (s - more) (omega arith)) k

-- members that pass a test are among those that pass a weaker one
pub kept_in : {X Y : Type 0} (f : X → Y) (test keep : X → Bool) (xs : List X) (y : Y) → ((x : X) → test x ≡ true → keep x ≡ true) → In y (map f (filter test xs)) → In y (map f (filter keep xs))
kept_in f test keep xs y h m =
    let r = in_map_back f (filter test xs) y m in
    let k = in_filter_back test xs r.0 r.1 in
    subst (λ z. In z (map f (filter keep xs))) r.2 (in_map f (filter keep xs) r.0 (in_filter keep xs r.0 k.0 (h r.0 k.1)))

pub distinct_kept : {X Y : Type 0} (f : X → Y) (test keep : X → Bool) (xs : List X) → ((x : X) → test x ≡ true → keep x ≡ true) → Distinct (map f (filter keep xs)) → Distinct (map f (filter test xs))
distinct_kept f test keep [] h d = tt
distinct_kept {X} {Y} f test keep (x ∷ xs) h d = go (test x) (keep x) refl refl d (distinct_kept f test keep xs h)
  where
    go : (a b : Bool) → test x ≡ a → keep x ≡ b → Distinct (map f (cond b (x ∷ filter keep xs) (filter keep xs))) → (Distinct (map f (filter keep xs)) → Distinct (map f (filter test xs))) → Distinct (map f (cond a (x ∷ filter test xs) (filter test xs)))
    go true true p q d rest = ((λ m. d.0 (kept_in f test keep xs (f x) h m)), rest d.1)
    go true false p q d rest = absurd (true≢false (sym (h x p) ∙ q))
    go false true p q d rest = rest d.1
    go false false p q d rest = rest d

-- ---- one more member at the end

abbrev pub last_of : {X : Type 0} → List X → Option X
last_of [] = None
last_of (x ∷ []) = Some x
last_of (x ∷ y ∷ ys) = last_of (y ∷ ys)

pub last_push : {X : Type 0} (xs : List X) (x : X) → last_of (xs ++ x ∷ []) ≡ Some x
last_push [] x = refl
last_push (y ∷ []) x = refl
last_push (y ∷ z ∷ zs) x = last_push (z ∷ zs) x

pub near_push : {X : Type 0} (test : X → X → Bool) (xs : List X) (x : X) → all_neighbors test xs ≡ true → ((q : X) → last_of xs ≡ Some q → test q x ≡ true) → all_neighbors test (xs ++ x ∷ []) ≡ true
near_push test [] x h k = refl
near_push test (y ∷ []) x h k = and_both (test y x) true (k y refl) refl
near_push test (y ∷ z ∷ zs) x h k = and_both (test y z) (all_neighbors test ((z ∷ zs) ++ x ∷ [])) (and_left (test y z) (all_neighbors test (z ∷ zs)) h) (near_push test (z ∷ zs) x (and_right (test y z) (all_neighbors test (z ∷ zs)) h) k)

pub distinct_push : {X : Type 0} (xs : List X) (x : X) → Distinct xs → (In x xs → ⊥) → Distinct (xs ++ x ∷ [])
distinct_push [] x h k = ((λ m. m), tt)
distinct_push {X} (y ∷ ys) x h k = (apart, distinct_push ys x h.1 (λ m. k (inr m)))
  where
    at : In y ys ⊎ In y (x ∷ []) → ⊥
    at (inl m) = h.0 m
    at (inr (inl e)) = k (inl (sym e))
    at (inr (inr m)) = m

    apart : In y (ys ++ x ∷ []) → ⊥
    apart m = at (in_append y ys (x ∷ []) m)

pub length_push : {X : Type 0} (xs : List X) (x : X) → length (xs ++ x ∷ []) ≡ length xs + 1
length_push [] x = refl
length_push (y ∷ ys) x = let h = length_push ys x in omega arith

-- members that are all one
pub one_at_most : {X : Type 0} (xs : List X) → Distinct xs → ((x y : X) → In x xs → In y xs → x ≡ y) → (xs ≡ []) ⊎ ((x : X) × (xs ≡ x ∷ []))
one_at_most [] h k = inl refl
one_at_most (x ∷ []) h k = inr (x, refl)
one_at_most (x ∷ y ∷ ys) h k = absurd (h.0 (inl (k y x (inr (inl refl)) (inl refl))))

pub distinct_map_in : {X Y : Type 0} (f : X → Y) (xs : List X) → ((x y : X) → In x xs → In y xs → f x ≡ f y → x ≡ y) → Distinct xs → Distinct (map f xs)
distinct_map_in f [] one h = tt
distinct_map_in f (x ∷ xs) one h =
    ((λ m. let r = in_map_back f xs (f x) m in h.0 (subst (λ w. In w xs) (one r.0 x (inr r.1) (inl refl) r.2) r.1)), distinct_map_in f xs (λ a b m n. one a b (inr m) (inr n)) h.1)

pub distinct_append : {X : Type 0} (xs ys : List X) → Distinct xs → Distinct ys → ((x : X) → In x xs → In x ys → ⊥) → Distinct (xs ++ ys)
distinct_append [] ys h k apart = k
distinct_append {X} (x ∷ xs) ys h k apart = ((λ m. at (in_append x xs ys m)), distinct_append xs ys h.1 k (λ y m. apart y (inr m)))
  where
    at : In x xs ⊎ In x ys → ⊥
    at (inl m) = h.0 m
    at (inr m) = apart x (inl refl) m

pub distinct_flat_map : {X Y : Type 0} (f : X → List Y) (of : Y → X) (xs : List X) → ((x : X) → Distinct (f x)) → ((x : X) (y : Y) → In y (f x) → of y ≡ x) → Distinct xs → Distinct (flat_map f xs)
distinct_flat_map f of [] each own h = tt
distinct_flat_map {X} {Y} f of (x ∷ xs) each own h = distinct_append (f x) (flat_map f xs) (each x) (distinct_flat_map f of xs each own h.1) apart
  where
    apart : (y : Y) → In y (f x) → In y (flat_map f xs) → ⊥
    apart y m k = let r = in_flat_map_back f xs y k in h.0 (subst (λ z. In z xs) (sym (own r.0 y r.2) ∙ own x y m) r.1)

pub map-push : {X Y : Type 0} (f : X → Y) (xs : List X) (x : X) → map f (xs ++ x ∷ []) ≡ map f xs ++ f x ∷ []
map-push f [] x = refl
map-push f (y ∷ ys) x = ap (λ zs. f y ∷ zs) (map-push f ys x)

pub flat_map-push : {X Y : Type 0} (f : X → List Y) (xs : List X) (x : X) → flat_map f (xs ++ x ∷ []) ≡ flat_map f xs ++ f x
flat_map-push f [] x = append-nil (f x)
flat_map-push f (y ∷ ys) x = ap (λ zs. f y ++ zs) (flat_map-push f ys x) ∙ sym (append_assoc (f y) (flat_map f ys) (f x))

pub count-push : (a n : ℕ) → count_from a (suc n) ≡ count_from a n ++ (a + n) ∷ []
count-push a zero = ap (λ m. m ∷ []) (omega arith)
count-push a (suc n) = ap (λ xs. a ∷ xs) (count-push (a + 1) n ∙ ap (λ m. count_from (a + 1) n ++ m ∷ []) (omega arith))

pub one_to-push : (n : ℕ) → one_to (suc n) ≡ one_to n ++ suc n ∷ []
one_to-push n = count-push 1 n ∙ ap (λ m. count_from 1 n ++ m ∷ []) (omega arith)
