-- Words of bits, and the numbers that they have.
use Rattle.std.proofs.Common.{◌≡◌, ℕ, zero, suc, ◌+◌, ◌*◌, ◌/◌, ◌%◌, ◌^◌, ◌<◌, ◌≤◌, ◌⊎◌, inl, inr, min, Bool, true, false, not, ◌||◌, ◌==◌, if◌then◌else◌, eqb, List, [], ◌∷◌, ◌++◌, length, get_or, set, take, replicate, refl, sym, ap, ap₂, ◌∙◌, arith, eqb-true, eq-eqb, get_or-set_other, get_or-set_same}
use Rattle.std.specs.Prelude.{bit_and, bit_or, zip}
use Rattle.std.proofs.Common.{Fits}
use Rattle.std.specs.List.{list_any}
use Rattle.std.specs.Int.{bit_at, w64, trailing_zeros}
use Rattle.std.proofs.lemmas.Bool.{cases_eq, cases_lt, ne_eqb}
use Rattle.std.proofs.lemmas.List.{get_or_past}
use Rattle.std.proofs.lemmas.Nat.{and_le_l, div-mul-add, mod-mul-add}
use Rattle.std.proofs.lemmas.Grind.{get_or_default_zero}
use Rattle.std.proofs.lemmas.Nat.Bits.{bit_at_set_same, bit_at_set_other, bit_at_and, bit_at-zero, shr_and_one, bit_at-trailing_zeros, bit_at-lt}
use Rattle.std.proofs.lemmas.List.Folds.{list_any_at, Any-from_list_any}
use Rattle.std.proofs.lemmas.Slice.Zip.{length-zip, get_or-zip}
use Rattle.number_sets.specs.Words.{has, touch}

-- no number is past the words
pub none_past : (ws : List ℕ) (k : ℕ) → length ws ≤ k / 64 → has ws k ≡ false
unfolding has
none_past ws k h = ap (λ w. eqb (bit_at w (k % 64)) 1) (get_or_past ws (k / 64) 0 h) ∙ ap (λ b. eqb b 1) (bit_at-zero (k % 64))

-- the bit of a number in its word
pub bit_is : (ws : List ℕ) (k word : ℕ) → word ≡ get_or ws (k / 64) 0 → eqb (bit_and (word / 2 ^ (k % 64)) 1) 1 ≡ has ws k
unfolding has
bit_is ws k word e = ap (λ b. eqb b 1) (shr_and_one word (k % 64) ∙ ap (λ w. bit_at w (k % 64)) e)

zeros : (m i : ℕ) → get_or (replicate {A = ℕ} m 0) i 0 ≡ 0
zeros zero i = refl
zeros (suc m) zero = refl
zeros (suc m) (suc i) = zeros m i

zeros_after : (ws : List ℕ) (m i : ℕ) → get_or (ws ++ replicate {A = ℕ} m 0) i 0 ≡ get_or ws i 0
zeros_after [] m i = zeros m i
zeros_after (w ∷ ws) m zero = refl
zeros_after (w ∷ ws) m (suc i) = zeros_after ws m i

pub all_taken : {X : Type 0} (ws : List X) (n : ℕ) → length ws ≤ n → take n ws ≡ ws
all_taken [] zero h = refl
all_taken [] (suc n) h = refl
all_taken (w ∷ ws) zero h = absurd (omega arith)
all_taken (w ∷ ws) (suc n) h = ap (λ vs. w ∷ vs) (all_taken ws n (omega arith))

-- words of zeros are no numbers more
pub widened : (ws new : List ℕ) (ok : Bool) (n m : ℕ) → length ws ≤ n → new ≡ (if ok then take n ws ++ replicate m 0 else ws) → (k : ℕ) → has new k ≡ has ws k
unfolding has
widened ws new ok n m h e k = ap (λ vs. eqb (bit_at (get_or vs (k / 64) 0) (k % 64)) 1) e ∙ go ok
  where
    go : (ok : Bool) → eqb (bit_at (get_or (if ok then take n ws ++ replicate m 0 else ws) (k / 64) 0) (k % 64)) 1 ≡ eqb (bit_at (get_or ws (k / 64) 0) (k % 64)) 1
    go false = refl
    go true = ap (λ w. eqb (bit_at w (k % 64)) 1) (ap (λ vs. get_or (vs ++ replicate m 0) (k / 64) 0) (all_taken ws n h) ∙ zeros_after ws m (k / 64))

-- one number more
pub put_is : (ws : List ℕ) (n : ℕ) → n / 64 < length ws → (k : ℕ) → has (set ws (n / 64) (bit_or (get_or ws (n / 64) 0) (1 * 2 ^ (n % 64) % 18446744073709551616))) k ≡ (k == n || has ws k)
unfolding has
put_is ws n h k = go (cases_eq (k / 64) (n / 64)) (cases_eq (k % 64) (n % 64))
  where
    word : ℕ
    word = bit_or (get_or ws (n / 64) 0) (1 * 2 ^ (n % 64) % 18446744073709551616)

    differ : (k ≡ n → ⊥) → (eqb k n || eqb (bit_at (get_or ws (k / 64) 0) (k % 64)) 1) ≡ eqb (bit_at (get_or ws (k / 64) 0) (k % 64)) 1
    differ d = ap (λ b. b || eqb (bit_at (get_or ws (k / 64) 0) (k % 64)) 1) (ne_eqb k n d)

    go : (k / 64 ≡ n / 64) ⊎ (k / 64 ≡ n / 64 → ⊥) → (k % 64 ≡ n % 64) ⊎ (k % 64 ≡ n % 64 → ⊥)
        → eqb (bit_at (get_or (set ws (n / 64) (bit_or (get_or ws (n / 64) 0) (1 * 2 ^ (n % 64) % 18446744073709551616))) (k / 64) 0) (k % 64)) 1 ≡ (k == n || eqb (bit_at (get_or ws (k / 64) 0) (k % 64)) 1)
    go (inr d) x =
        ap (λ w. eqb (bit_at w (k % 64)) 1) (get_or-set_other ws (n / 64) (k / 64) (bit_or (get_or ws (n / 64) 0) (1 * 2 ^ (n % 64) % 18446744073709551616)) 0 d)
        ∙ sym (differ (λ e. d (ap (λ m. m / 64) e)))
    go (inl e) (inl f) =
        let same : k ≡ n = omega arith in
        let small : n % 64 < 64 = omega arith in
        ap₂ (λ i j. eqb (bit_at (get_or (set ws (n / 64) (bit_or (get_or ws (n / 64) 0) (1 * 2 ^ (n % 64) % 18446744073709551616))) i 0) j) 1) e f
        ∙ (ap (λ w. eqb (bit_at w (n % 64)) 1) (get_or-set_same ws (n / 64) (bit_or (get_or ws (n / 64) 0) (1 * 2 ^ (n % 64) % 18446744073709551616)) 0 h)
        ∙ (ap (λ b. eqb b 1) (bit_at_set_same w64 (get_or ws (n / 64) 0) (n % 64) small)
        ∙ sym (ap (λ b. b || eqb (bit_at (get_or ws (k / 64) 0) (k % 64)) 1) (eq-eqb k n same))))
    go (inl e) (inr d) =
        let small : n % 64 < 64 = omega arith in
        ap (λ i. eqb (bit_at (get_or (set ws (n / 64) (bit_or (get_or ws (n / 64) 0) (1 * 2 ^ (n % 64) % 18446744073709551616))) i 0) (k % 64)) 1) e
        ∙ (ap (λ w. eqb (bit_at w (k % 64)) 1) (get_or-set_same ws (n / 64) (bit_or (get_or ws (n / 64) 0) (1 * 2 ^ (n % 64) % 18446744073709551616)) 0 h)
        ∙ (ap (λ b. eqb b 1) (bit_at_set_other w64 (get_or ws (n / 64) 0) (n % 64) small (k % 64) d)
        ∙ (ap (λ i. eqb (bit_at (get_or ws i 0) (k % 64)) 1) (sym e)
        ∙ sym (differ (λ s. d (ap (λ m. m % 64) s))))))

-- ---- words in which two sets have a number in common

-- a number of both shows in their words
pub touch_at : (one other : List ℕ) (k : ℕ) → has one k ≡ true → has other k ≡ true → list_any touch (zip one other) ≡ true
unfolding has
touch_at one other k p q =
    list_any_at touch (zip one other) (k / 64) (0, 0) (rw length-zip (omega (arith, left, right))) (ap touch (get_or-zip one other (k / 64) (0, 0) left right) ∙ ap not (ne_eqb _ 0 some))
  where
    left : k / 64 < length one
    left = elim (cases_lt (k / 64) (length one)) [ inl h ↦ h | inr h ↦ absurd (let e = none_past one k h in let z = sym e ∙ p in cc) ]

    right : k / 64 < length other
    right = elim (cases_lt (k / 64) (length other)) [ inl h ↦ h | inr h ↦ absurd (let e = none_past other k h in let z = sym e ∙ q in cc) ]

    one_is_some : {n : ℕ} → n ≡ 1 → n ≡ 0 → ⊥
    one_is_some e f = omega arith

    some : bit_and (get_or one (k / 64) 0) (get_or other (k / 64) 0) ≡ 0 → ⊥
    some e =
        let both = bit_at_and (get_or one (k / 64) 0) (get_or other (k / 64) 0) (k % 64) in
        let a : bit_at (get_or one (k / 64) 0) (k % 64) ≡ 1 = eqb-true _ 1 p in
        let b : bit_at (get_or other (k / 64) 0) (k % 64) ≡ 1 = eqb-true _ 1 q in
        let n = ap (λ w. bit_at w (k % 64)) e ∙ bit_at-zero (k % 64) in
        one_is_some (both ∙ ap₂ min a b) n

-- and words that touch have a number of both
touch_here : (one other : List ℕ) (i a b : ℕ) → a ≡ get_or one i 0 → b ≡ get_or other i 0 → Fits w64 a → touch (a, b) ≡ true → (k : ℕ) × (has one k ≡ true) × (has other k ≡ true)
unfolding has
touch_here one other i a b e f small t =
    let j = trailing_zeros w64 (bit_and a b) in
    let positive : 0 < bit_and a b = elim (cases_eq (bit_and a b) 0) [ inl z ↦ absurd (let n = ap (λ n. not (eqb n 0)) z in let u = sym t ∙ n in cc) | inr d ↦ omega (arith, d) ] in
    let below : bit_and a b < 2 ^ 64 = let l = and_le_l a b in omega arith in
    let bit = bit_at-trailing_zeros w64 (bit_and a b) positive below in
    let low : j < 64 = bit.0 in
    let least : min (bit_at a j) (bit_at b j) ≡ 1 = sym (bit_at_and a b j) ∙ bit.1 in
    let left : bit_at a j ≡ 1 = let l = bit_at-lt a j in omega arith in
    let right : bit_at b j ≡ 1 = let l = bit_at-lt b j in omega arith in
    (i * 64 + j, shows one i a j low e left, shows other i b j low f right)
  where
    shows : (ws : List ℕ) (i w j : ℕ) → j < 64 → w ≡ get_or ws i 0 → bit_at w j ≡ 1 → eqb (bit_at (get_or ws ((i * 64 + j) / 64) 0) ((i * 64 + j) % 64)) 1 ≡ true
    shows ws i w j l e h =
        ap₂ (λ m n. eqb (bit_at (get_or ws m 0) n) 1) (div-mul-add i 64 j l) (mod-mul-add i 64 j l)
        ∙ (ap (λ w. eqb (bit_at w j) 1) (sym e) ∙ ap (λ b. eqb b 1) h)

pub touch_gives : (one other : List ℕ) → ((i : ℕ) → Fits w64 (get_or one i 0)) → list_any touch (zip one other) ≡ true → (k : ℕ) × (has one k ≡ true) × (has other k ≡ true)
touch_gives one other fits h =
    let found = Any-from_list_any touch (zip one other) h in
    let i = found.0 in
    let within : i < length (zip one other) = found.2 in
    let long = length-zip one other in
    let left : i < length one = omega arith in
    let right : i < length other = omega arith in
    touch_here one other i (get_or one i 0) (get_or other i 0) refl refl (fits i)
    (ap₂ (λ a b. touch (a, b)) (sym (get_or_default_zero one i found.1.0 left)) (sym (get_or_default_zero other i found.1.1 right))
    ∙ (ap touch (sym (get_or-zip one other i found.1 left right) ∙ found.3) ∙ found.4))
