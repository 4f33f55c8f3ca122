-- Members that pass a test, in lists that are made of others, and places in lists.
use Rattle.std.proofs.Common.{◌≡◌, ℕ, zero, suc, ◌+◌, ◌-◌, ◌*◌, ◌≤◌, ◌<◌, inl, inr, Bool, true, false, cond, not, ◌&&◌, ◌||◌, if◌then◌else◌, List, [], ◌∷◌, ◌++◌, map, flat_map, filter, length, Some, slice_get, refl, sym, ap, subst, ◌∙◌, arith, true≢false, length-append}
use Rattle.std.specs.List.{list_all, list_any}
use Rattle.std.proofs.Math.Nat.{suc-mul}
use Rattle.rail_base.specs.Members.{In}
use Rattle.rail_base.specs.Numbering.{count_from, before_first}
use Rattle.rail_base.proofs.Members.{filter-append}

-- ---- truth values

pub not_not : (b : Bool) → not (not b) ≡ b
not_not true = refl
not_not false = refl

pub not_true : (b : Bool) → not b ≡ true → b ≡ false
not_true true h = sym h
not_true false h = refl

pub first_false : (a b : Bool) → (a || b) ≡ false → a ≡ false
first_false true b h = h
first_false false b h = refl

pub second_false : (a b : Bool) → (a || b) ≡ false → b ≡ false
second_false true b h = absurd (true≢false h)
second_false false b h = h

-- ---- those that pass

-- none of these passes
pub filter_none : {X : Type 0} (test : X → Bool) (xs : List X) → ((x : X) → In x xs → test x ≡ false) → filter test xs ≡ []
filter_none test [] h = refl
filter_none test (x ∷ xs) h = ap (λ b. cond b (x ∷ filter test xs) (filter test xs)) (h x (inl refl)) ∙ filter_none test xs (λ y m. h y (inr m))

-- all of these pass
pub filter_every : {X : Type 0} (test : X → Bool) (xs : List X) → ((x : X) → In x xs → test x ≡ true) → filter test xs ≡ xs
filter_every test [] h = refl
filter_every test (x ∷ xs) h = ap (λ b. cond b (x ∷ filter test xs) (filter test xs)) (h x (inl refl)) ∙ ap (λ ys. x ∷ ys) (filter_every test xs (λ y m. h y (inr m)))

-- tests that tell the same of these
pub filter_alike : {X : Type 0} (test other : X → Bool) (xs : List X) → ((x : X) → In x xs → test x ≡ other x) → filter test xs ≡ filter other xs
filter_alike test other [] h = refl
filter_alike test other (x ∷ xs) h =
    ap (λ b. cond b (x ∷ filter test xs) (filter test xs)) (h x (inl refl))
    ∙ ap (λ ys. cond (other x) (x ∷ ys) ys) (filter_alike test other xs (λ y m. h y (inr m)))

-- of what is made of each, that passes which is made of one that passes
pub filter_map : {X Y : Type 0} (keep : Y → Bool) (test : X → Bool) (f : X → Y) (xs : List X) → ((x : X) → In x xs → keep (f x) ≡ test x) → filter keep (map f xs) ≡ map f (filter test xs)
filter_map keep test f [] h = refl
filter_map keep test f (x ∷ xs) h = go (test x) (h x (inl refl)) (filter_map keep test f xs (λ y m. h y (inr m)))
  where
    go : (b : Bool) → keep (f x) ≡ b → filter keep (map f xs) ≡ map f (filter test xs) → cond (keep (f x)) (f x ∷ filter keep (map f xs)) (filter keep (map f xs)) ≡ map f (cond b (x ∷ filter test xs) (filter test xs))
    go true e rest = ap (λ c. cond c (f x ∷ filter keep (map f xs)) (filter keep (map f xs))) e ∙ ap (λ ys. f x ∷ ys) rest
    go false e rest = ap (λ c. cond c (f x ∷ filter keep (map f xs)) (filter keep (map f xs))) e ∙ rest

-- of the lists that are made of each, those of such that pass are left
pub filter_rows : {X Y : Type 0} (keep : Y → Bool) (test : X → Bool) (f : X → List Y) (xs : List X) → ((x : X) (y : Y) → In x xs → In y (f x) → keep y ≡ test x) → filter keep (flat_map f xs) ≡ flat_map f (filter test xs)
filter_rows keep test f [] h = refl
filter_rows keep test f (x ∷ xs) h = filter-append keep (f x) (flat_map f xs) ∙ go (test x) (λ y m. h x y (inl refl) m) (filter_rows keep test f xs (λ z y m. h z y (inr m)))
  where
    go : (b : Bool) → ((y : _) → In y (f x) → keep y ≡ b) → filter keep (flat_map f xs) ≡ flat_map f (filter test xs) → filter keep (f x) ++ filter keep (flat_map f xs) ≡ flat_map f (cond b (x ∷ filter test xs) (filter test xs))
    go true e rest = ap (λ ys. ys ++ filter keep (flat_map f xs)) (filter_every keep (f x) e) ∙ ap (λ ys. f x ++ ys) rest
    go false e rest = ap (λ ys. ys ++ filter keep (flat_map f xs)) (filter_none keep (f x) e) ∙ rest

-- what those that fail make is nothing
pub flat_map_kept : {X Y : Type 0} (test : X → Bool) (f g : X → List Y) (xs : List X) → ((x : X) → In x xs → test x ≡ true → f x ≡ g x) → ((x : X) → In x xs → test x ≡ false → f x ≡ []) → flat_map f xs ≡ flat_map g (filter test xs)
flat_map_kept test f g [] h k = refl
flat_map_kept test f g (x ∷ xs) h k = go (test x) refl (flat_map_kept test f g xs (λ y m. h y (inr m)) (λ y m. k y (inr m)))
  where
    go : (b : Bool) → test x ≡ b → flat_map f xs ≡ flat_map g (filter test xs) → f x ++ flat_map f xs ≡ flat_map g (cond b (x ∷ filter test xs) (filter test xs))
    go true e rest = ap (λ ys. ys ++ flat_map f xs) (h x (inl refl) e) ∙ ap (λ ys. g x ++ ys) rest
    go false e rest = ap (λ ys. ys ++ flat_map f xs) (k x (inl refl) e) ∙ rest

-- tests one after the other, in either order
pub filter_both : {X : Type 0} (test other : X → Bool) (xs : List X) → filter test (filter other xs) ≡ filter other (filter test xs)
filter_both test other [] = refl
filter_both test other (x ∷ xs) = go (test x) (other x) refl refl (filter_both test other xs)
  where
    go : (a b : Bool) → test x ≡ a → other x ≡ b → filter test (filter other xs) ≡ filter other (filter test xs) → filter test (cond b (x ∷ filter other xs) (filter other xs)) ≡ filter other (cond a (x ∷ filter test xs) (filter test xs))
    go true true d e rest = ap (λ c. cond c (x ∷ filter test (filter other xs)) (filter test (filter other xs))) d ∙ (ap (λ ys. x ∷ ys) rest ∙ sym (ap (λ c. cond c (x ∷ filter other (filter test xs)) (filter other (filter test xs))) e))
    go true false d e rest = rest ∙ sym (ap (λ c. cond c (x ∷ filter other (filter test xs)) (filter other (filter test xs))) e)
    go false true d e rest = ap (λ c. cond c (x ∷ filter test (filter other xs)) (filter test (filter other xs))) d ∙ rest
    go false false d e rest = rest

-- ---- tests of all

-- what is made of these passes where they do
pub list_all_map : {X Y : Type 0} (test : Y → Bool) (other : X → Bool) (f : X → Y) (xs : List X) → ((x : X) → In x xs → test (f x) ≡ other x) → list_all test (map f xs) ≡ list_all other xs
list_all_map test other f [] h = refl
list_all_map test other f (x ∷ xs) h = ap (λ b. b && list_all test (map f xs)) (h x (inl refl)) ∙ ap (λ b. other x && b) (list_all_map test other f xs (λ y m. h y (inr m)))

-- ---- places

pub in_get : {X : Type 0} (xs : List X) (i : ℕ) (x : X) → slice_get xs i ≡ Some x → In x xs
in_get [] i x e = absurd (cc)
in_get (y ∷ ys) zero x e = inl (cc)
in_get (y ∷ ys) (suc i) x e = inr (in_get ys i x e)

pub get-left : {X : Type 0} (xs ys : List X) (j : ℕ) (x : X) → slice_get xs j ≡ Some x → slice_get (xs ++ ys) j ≡ Some x
get-left [] ys j x e = absurd (cc)
get-left (y ∷ xs) ys zero x e = e
get-left (y ∷ xs) ys (suc j) x e = get-left xs ys j x e

pub get-right : {X : Type 0} (xs ys : List X) (i j : ℕ) → i ≡ length xs + j → slice_get (xs ++ ys) i ≡ slice_get ys j
get-right [] ys i j e = ap (slice_get ys) (omega arith)
get-right (x ∷ xs) ys zero j e = absurd (omega arith)
get-right (x ∷ xs) ys (suc i) j e = get-right xs ys i j (omega arith)

pub get-counted : {X : Type 0} (f : ℕ → X) (a n i : ℕ) → a ≤ i → i < a + n → slice_get (map f (count_from a n)) (i - a) ≡ Some (f i)
get-counted f a zero i h k = absurd (omega arith)
get-counted {X} f a (suc n) i h k = go (i - a) refl (get-counted f (a + 1) n i)
  where
    go : (j : ℕ) → i - a ≡ j → (a + 1 ≤ i → i < a + 1 + n → slice_get (map f (count_from (a + 1) n)) (i - (a + 1)) ≡ Some (f i)) → slice_get (map f (count_from a (suc n))) j ≡ Some (f i)
    go zero e rest = ap (λ m. Some (f m)) (omega arith)
    go (suc j) e rest = ap (slice_get (map f (count_from (a + 1) n))) (omega arith) ∙ rest (omega arith) (omega arith)

pub get-map : {X Y : Type 0} (f : X → Y) (xs : List X) (j : ℕ) (x : X) → slice_get xs j ≡ Some x → slice_get (map f xs) j ≡ Some (f x)
get-map f [] j x e = absurd (cc)
get-map f (y ∷ ys) zero x e = let same : y ≡ x = cc in ap (λ z. Some (f z)) same
get-map f (y ∷ ys) (suc j) x e = get-map f ys j x e

-- in rows of one length, the place of an entry is that of its row times the length and its place there
pub get-row : {X Y : Type 0} (f : X → List Y) (m : ℕ) (xs : List X) (a j : ℕ) (x : X) (y : Y) → ((z : X) → length (f z) ≡ m) → slice_get xs a ≡ Some x → slice_get (f x) j ≡ Some y → slice_get (flat_map f xs) (a * m + j) ≡ Some y
get-row f m [] a j x y l e k = absurd (cc)
get-row f m (z ∷ xs) zero j x y l e k =
    let same : z ≡ x = cc in
    ap (slice_get (f z ++ flat_map f xs)) (omega arith) ∙ get-left (f z) (flat_map f xs) j y (subst (λ w. slice_get (f w) j ≡ Some y) (sym same) k)
get-row f m (z ∷ xs) (suc a) j x y l e k =
    let step = suc-mul a m in
    let row = l z in
    get-right (f z) (flat_map f xs) (suc a * m + j) (a * m + j) (omega arith) ∙ get-row f m xs a j x y l e k

pub length-rows : {X Y : Type 0} (f : X → List Y) (m : ℕ) (xs : List X) → ((z : X) → length (f z) ≡ m) → length (flat_map f xs) ≡ length xs * m
length-rows f m [] l = omega arith
length-rows f m (z ∷ xs) l =
    let a = length-rows f m xs l in
    let b = l z in
    let c = length-append (f z) (flat_map f xs) in
    let e = suc-mul (length xs) m in
    omega arith

-- the first member that passes a test stands after those before it
pub get-first : {X : Type 0} (test : X → Bool) (xs : List X) → list_any test xs ≡ true → (x : X) × (slice_get xs (length (before_first test xs)) ≡ Some x) × (test x ≡ true)
get-first test [] h = absurd (true≢false (sym h))
get-first {X} test (y ∷ ys) h = go (test y) refl h (get-first test ys)
  where
    go : (b : Bool) → test y ≡ b → (b || list_any test ys) ≡ true → (list_any test ys ≡ true → (x : X) × (slice_get ys (length (before_first test ys)) ≡ Some x) × (test x ≡ true))
        → (x : X) × (slice_get (y ∷ ys) (length (if b then [] else y ∷ before_first test ys)) ≡ Some x) × (test x ≡ true)
    go true e k rest = (y, refl, e)
    go false e k rest = let r = rest k in (r.0, r.1, r.2)
