-- Lists of numbers in a row, put together.
use Rattle.std.proofs.Common.{◌≡◌, ℕ, zero, suc, ◌+◌, ◌-◌, ◌*◌, ◌≤◌, ◌<◌, ◌⊎◌, inl, inr, Bool, true, false, ◌||◌, if◌then◌else◌, List, [], ◌∷◌, ◌++◌, map, filter, flat_map, length, Some, None, option_map, refl, sym, ap, ap₂, subst, ◌∙◌, arith, length-append, cond, true≢false}
use Rattle.std.proofs.Math.Nat.{suc-mul}
use Rattle.std.proofs.lemmas.Grind.{flat_map-append}
use Rattle.std.specs.List.{list_any}
use Rattle.rail_base.specs.Numbering.{count_from, before_first}
use Rattle.rail_base.specs.Members.{In}
use Rattle.rail_base.proofs.Members.{below_or_not, false_unless, filter-append, list_any_from, list_any_gives}
use Rattle.rail_base.proofs.Lists.{in_count, in_flat_map, in_flat_map_back}
use Rattle.command_set.specs.Blocks.{member_count}
use Rattle.command_set.specs.Commands.{first_place}

-- ---- how many they are

module _ {X : Type 0} (f : ℕ → List X) where
  pub length_blocks : (a n : ℕ) → length (flat_map f (count_from a n)) ≡ member_count f a n
  length_blocks a zero = refl
  length_blocks a (suc n) = length-append (f a) (flat_map f (count_from (a + 1) n)) ∙ ap (λ m. length (f a) + m) (length_blocks (a + 1) n)

  -- lists of one length
  pub counted_alike : (size a n : ℕ) → ((i : ℕ) → a ≤ i → i < a + n → length (f i) ≡ size) → member_count f a n ≡ n * size
  counted_alike size a zero h = omega arith
  counted_alike size a (suc n) h =
      let one = h a (omega arith) (omega arith) in
      let rest = counted_alike size (a + 1) n (λ i l m. h i (omega arith) (omega arith)) in
      let s = suc-mul n size in
      omega arith

  -- short lists
  pub counted_few : (size a n : ℕ) → ((i : ℕ) → length (f i) ≤ size) → member_count f a n ≤ n * size
  counted_few size a zero h = omega arith
  counted_few size a (suc n) h =
      let one = h a in
      let rest = counted_few size (a + 1) n h in
      let s = suc-mul n size in
      omega arith

  -- one list more
  pub counted_more : (a n : ℕ) → member_count f a (n + 1) ≡ member_count f a n + length (f (a + n))
  counted_more a n = ap (member_count f a) (next n) ∙ go a n
    where
      next : (n : ℕ) → n + 1 ≡ suc n
      next n = omega arith

      go : (a n : ℕ) → member_count f a (suc n) ≡ member_count f a n + length (f (a + n))
      go a zero = let e = ap (λ i. length (f i)) (same a) in omega arith
        where
          same : (a : ℕ) → a + 0 ≡ a
          same a = omega arith
      go a (suc n) =
          let rest = go (a + 1) n in
          let e = ap (λ i. length (f i)) (shift a n) in
          omega arith
        where
          shift : (a n : ℕ) → a + 1 + n ≡ a + suc n
          shift a n = omega arith

  -- fewer lists have no more members
  pub counted_rises : (a m n : ℕ) → m ≤ n → member_count f a m ≤ member_count f a n
  counted_rises a zero n h = omega arith
  counted_rises a (suc m) zero h = omega arith
  counted_rises a (suc m) (suc n) h = let k = counted_rises (a + 1) m n (omega arith) in omega arith

-- lists that are each so many times as long as others
pub counted_scaled : {X Y : Type 0} (f : ℕ → List X) (g : ℕ → List Y) (by a n : ℕ) → ((i : ℕ) → length (f i) ≡ by * length (g i)) → member_count f a n ≡ by * member_count g a n
counted_scaled f g by a zero h = omega arith
counted_scaled f g by a (suc n) h =
    let one = h a in
    let rest = counted_scaled f g by (a + 1) n h in
    spread by (length (f a)) (length (g a)) (member_count f (a + 1) n) (member_count g (a + 1) n) one rest
  where
    spread : (by x y z w : ℕ) → x ≡ by * y → z ≡ by * w → x + z ≡ by * (y + w)
    spread by x y z w e k = omega arith

-- ---- the first that passes a test

pub before_here : {X : Type 0} (test : X → Bool) (xs ys : List X) → list_any test xs ≡ true → before_first test (xs ++ ys) ≡ before_first test xs
before_here test [] ys h = cc
before_here {X} test (x ∷ xs) ys h = go (test x) h (before_here test xs ys)
  where
    go : (b : Bool) → (b || list_any test xs) ≡ true → (list_any test xs ≡ true → before_first test (xs ++ ys) ≡ before_first test xs)
        → (if b then [] else x ∷ before_first test (xs ++ ys)) ≡ (if b then [] else x ∷ before_first test xs)
    go true k rest = refl
    go false k rest = ap (λ zs. x ∷ zs) (rest k)

pub before_past : {X : Type 0} (test : X → Bool) (xs ys : List X) → list_any test xs ≡ false → before_first test (xs ++ ys) ≡ xs ++ before_first test ys
before_past test [] ys h = refl
before_past {X} test (x ∷ xs) ys h = go (test x) h (before_past test xs ys)
  where
    go : (b : Bool) → (b || list_any test xs) ≡ false → (list_any test xs ≡ false → before_first test (xs ++ ys) ≡ xs ++ before_first test ys)
        → (if b then [] else x ∷ before_first test (xs ++ ys)) ≡ x ∷ (xs ++ before_first test ys)
    go true k rest = cc
    go false k rest = ap (λ zs. x ∷ zs) (rest k)

-- it stands in the one list that has some
module _ {X : Type 0} (test : X → Bool) (f : ℕ → List X) (m : ℕ) (others : (i : ℕ) → (i ≡ m → ⊥) → list_any test (f i) ≡ false) where
  pub place_block : (k a n : ℕ) → a + k ≡ m → k < n → list_any test (f m) ≡ true
      → length (before_first test (flat_map f (count_from a n))) ≡ member_count f a k + length (before_first test (f m))
  place_block k a zero e l h = absurd (omega arith)
  place_block zero a (suc n) e l h =
      let is : a ≡ m = omega arith in
      let one = ap length (before_here test (f a) (flat_map f (count_from (a + 1) n)) (subst (λ i. list_any test (f i) ≡ true) (sym is) h)) in
      let two = ap (λ i. length (before_first test (f i))) is in
      omega arith
  place_block (suc k) a (suc n) e l h =
      let none : list_any test (f a) ≡ false = others a (λ is. absurd (omega arith)) in
      let one = ap length (before_past test (f a) (flat_map f (count_from (a + 1) n)) none) in
      let two = length-append (f a) (before_first test (flat_map f (count_from (a + 1) n))) in
      let rest = place_block k (a + 1) n (omega arith) (omega arith) h in
      omega arith

  -- where it is known to be one of the lists, so is its place
  pub placed_block : (n : ℕ) → 1 ≤ m → m ≤ n → first_place test (flat_map f (count_from 1 n)) ≡ option_map (λ w. member_count f 1 (m - 1) + w) (first_place test (f m))
  placed_block n low high = go (list_any test (f m)) refl
    where
      go : (b : Bool) → list_any test (f m) ≡ b → first_place test (flat_map f (count_from 1 n)) ≡ option_map (λ w. member_count f 1 (m - 1) + w) (if b then Some (length (before_first test (f m))) else None)
      go true h =
          let g = list_any_gives test (f m) h in
          let there = list_any_from test (flat_map f (count_from 1 n)) g.0 (in_flat_map f (count_from 1 n) m g.0 (in_count 1 n m low (omega arith)) g.1) g.2 in
          ap (λ b. if b then Some (length (before_first test (flat_map f (count_from 1 n)))) else None) there
          ∙ ap Some (place_block (m - 1) 1 n (omega arith) (omega arith) h)
      go false h = ap (λ b. if b then Some (length (before_first test (flat_map f (count_from 1 n)))) else None) (false_unless (list_any test (flat_map f (count_from 1 n))) (λ k.
          let g = list_any_gives test (flat_map f (count_from 1 n)) k in
          let x = in_flat_map_back f (count_from 1 n) g.0 g.1 in
          none x.0 (list_any_from test (f x.0) g.0 x.2 g.2)))
        where
          none : (i : ℕ) → list_any test (f i) ≡ true → ⊥
          none i t = at (same i)
            where
              same : (i : ℕ) → (i ≡ m) ⊎ (i ≡ m → ⊥)
              same i = elim (below_or_not i m) [ inl a ↦ inr (λ e. absurd (omega arith)) | inr a ↦ elim (below_or_not m i) [ inl b ↦ inr (λ e. absurd (omega arith)) | inr b ↦ inl (omega arith) ] ]

              at : (i ≡ m) ⊎ (i ≡ m → ⊥) → ⊥
              at (inl e) = true≢false (sym (subst (λ j. list_any test (f j) ≡ true) e t) ∙ h)
              at (inr a) = true≢false (sym t ∙ others i a)

-- where no list has one
pub placed_nowhere : {X : Type 0} (test : X → Bool) (xs : List X) → ((x : X) → In x xs → test x ≡ true → ⊥) → first_place test xs ≡ None
placed_nowhere test xs none = ap (λ b. if b then Some (length (before_first test xs)) else None) (false_unless (list_any test xs) (λ k. let g = list_any_gives test xs k in none g.0 g.1 g.2))

-- ---- those that pass a test

module _ {X : Type 0} (test : X → Bool) (f : ℕ → List X) (m : ℕ) (others : (i : ℕ) → (i ≡ m → ⊥) → filter test (f i) ≡ []) where
  pub kept_none : (a n : ℕ) → (m < a) ⊎ (a + n ≤ m) → filter test (flat_map f (count_from a n)) ≡ []
  kept_none a zero h = refl
  kept_none a (suc n) h =
      filter-append test (f a) (flat_map f (count_from (a + 1) n))
      ∙ (ap (λ ys. ys ++ filter test (flat_map f (count_from (a + 1) n))) (others a (apart h)) ∙ kept_none (a + 1) n (on h))
    where
      apart : (m < a) ⊎ (a + suc n ≤ m) → a ≡ m → ⊥
      apart (inl l) e = absurd (omega arith)
      apart (inr l) e = absurd (omega arith)

      on : (m < a) ⊎ (a + suc n ≤ m) → (m < a + 1) ⊎ (a + 1 + n ≤ m)
      on (inl l) = inl (omega arith)
      on (inr l) = inr (omega arith)

  pub kept_block : (k a n : ℕ) → a + k ≡ m → k < n → filter test (flat_map f (count_from a n)) ≡ filter test (f m)
  kept_block k a zero e l = absurd (omega arith)
  kept_block zero a (suc n) e l =
      let is : a ≡ m = omega arith in
      filter-append test (f a) (flat_map f (count_from (a + 1) n))
      ∙ (ap (λ ys. filter test (f a) ++ ys) (kept_none (a + 1) n (inl (omega arith)))
      ∙ (append_none (filter test (f a)) ∙ ap (λ i. filter test (f i)) is))
    where
      append_none : (ys : List X) → ys ++ [] ≡ ys
      append_none [] = refl
      append_none (y ∷ ys) = ap (λ zs. y ∷ zs) (append_none ys)
  kept_block (suc k) a (suc n) e l =
      filter-append test (f a) (flat_map f (count_from (a + 1) n))
      ∙ (ap (λ ys. ys ++ filter test (flat_map f (count_from (a + 1) n))) (others a (λ is. absurd (omega arith))) ∙ kept_block k (a + 1) n (omega arith) (omega arith))

-- ---- lists made of others

pub flat_flat : {X Y Z : Type 0} (g : Y → List Z) (f : X → List Y) (xs : List X) → flat_map g (flat_map f xs) ≡ flat_map (λ x. flat_map g (f x)) xs
flat_flat g f [] = refl
flat_flat g f (x ∷ xs) = flat_map-append g (f x) (flat_map f xs) ∙ ap (λ ys. flat_map g (f x) ++ ys) (flat_flat g f xs)

pub flat_mapped : {X Y Z : Type 0} (g : Y → List Z) (f : X → Y) (xs : List X) → flat_map g (map f xs) ≡ flat_map (λ x. g (f x)) xs
flat_mapped g f [] = refl
flat_mapped g f (x ∷ xs) = ap (λ ys. g (f x) ++ ys) (flat_mapped g f xs)

pub flat_same : {X Y : Type 0} (f g : X → List Y) (xs : List X) → ((x : X) → In x xs → f x ≡ g x) → flat_map f xs ≡ flat_map g xs
flat_same f g [] h = refl
flat_same f g (x ∷ xs) h = ap₂ (λ ys zs. ys ++ zs) (h x (inl refl)) (flat_same f g xs (λ y m. h y (inr m)))

-- ---- tests of what is made of others

module _ {X Y : Type 0} (test : Y → Bool) (own : X → Bool) (g : X → Y) (same : (x : X) → test (g x) ≡ own x) where
  pub any_mapped : (xs : List X) → list_any test (map g xs) ≡ list_any own xs
  any_mapped [] = refl
  any_mapped (x ∷ xs) = ap₂ (λ a b. a || b) (same x) (any_mapped xs)

  pub before_mapped : (xs : List X) → length (before_first test (map g xs)) ≡ length (before_first own xs)
  before_mapped [] = refl
  before_mapped (x ∷ xs) = ap (λ b. length (if b then [] else g x ∷ before_first test (map g xs))) (same x) ∙ go (own x) (before_mapped xs)
    where
      go : (b : Bool) → length (before_first test (map g xs)) ≡ length (before_first own xs) → length (if b then [] else g x ∷ before_first test (map g xs)) ≡ length (if b then [] else x ∷ before_first own xs)
      go true rest = refl
      go false rest = ap suc rest

  pub placed_mapped : (xs : List X) → first_place test (map g xs) ≡ first_place own xs
  placed_mapped xs = ap₂ (λ b n. if b then Some n else None) (any_mapped xs) (before_mapped xs)

pub any_same : {X : Type 0} (test own : X → Bool) → ((x : X) → test x ≡ own x) → (xs : List X) → list_any test xs ≡ list_any own xs
any_same test own same [] = refl
any_same test own same (x ∷ xs) = ap₂ (λ a b. a || b) (same x) (any_same test own same xs)

pub filter_all : {X : Type 0} (test : X → Bool) (xs : List X) → ((x : X) → In x xs → test x ≡ true) → filter test xs ≡ xs
filter_all test [] h = refl
filter_all test (x ∷ xs) h = ap (λ b. cond b (x ∷ filter test xs) (filter test xs)) (h x (inl refl)) ∙ ap (λ ys. x ∷ ys) (filter_all test xs (λ y m. h y (inr m)))

pub filter_none : {X : Type 0} (test : X → Bool) (xs : List X) → ((x : X) → In x xs → test x ≡ false) → filter test xs ≡ []
filter_none test [] h = refl
filter_none test (x ∷ xs) h = ap (λ b. cond b (x ∷ filter test xs) (filter test xs)) (h x (inl refl)) ∙ filter_none test xs (λ y m. h y (inr m))
