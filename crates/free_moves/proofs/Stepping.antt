-- Counting the steps of free moves one at a time.
use Rattle.std.proofs.Common.{◌≡◌, ℕ, zero, suc, ◌+◌, ◌-◌, ◌*◌, ◌/◌, ◌≤◌, ◌<◌, min, Bool, true, false, if◌then◌else◌, nat_le, refl, sym, ap, ap₂, ◌∙◌, arith, leb-true, mul-le-mul, le_refl}
use Rattle.free_spec.specs.Free.{steps, steps_from_stop}
use Rattle.free_spec.proofs.Lower.{stuck}

-- where it is not reached a test of it is not needed
if_not_there : (b : Bool) (x y n : ℕ) → nat_le y x ≡ b → x < y → (if b then 0 else n) ≡ n
if_not_there true x y n e h = let i = leb-true y x e in absurd (omega arith)
if_not_there false x y n e h = refl

module _ (move : ℕ → ℕ) where
  pub step_on : (most ticks x y u all : ℕ) → ticks < most → x < y → u ≡ move x → all ≡ ticks + steps move (most - ticks) x y → all ≡ ticks + 1 + steps move (most - (ticks + 1)) (x + u) y
  step_on most ticks x y u all fewer ahead same h =
      let left : most - ticks ≡ suc (most - (ticks + 1)) = omega arith in
      let one : steps move (most - ticks) x y ≡ suc (steps move (most - (ticks + 1)) (x + u) y) =
      ap (λ n. steps move n x y) left ∙ (if_not_there (nat_le y x) x y (suc (steps move (most - (ticks + 1)) (x + move x) y)) refl ahead ∙ ap (λ n. suc (steps move (most - (ticks + 1)) (x + n) y)) (sym same)) in
      omega arith

  pub stands : (most ticks x y u all : ℕ) → ticks < most → x < y → u ≡ move x → u ≡ 0 → all ≡ ticks + steps move (most - ticks) x y → all ≡ most + 1
  stands most ticks x y u all fewer ahead same none h =
      let e = stuck move (most - ticks) x y (sym same ∙ none) ahead in
      omega arith

-- ---- from a stop

-- how far it can be after so many ticks
abbrev pub from_stop : ℕ → ℕ → ℕ → ℕ
from_stop c x0 j = x0 + c * (j * (j + 1)) / 2

wider : (c x0 j : ℕ) → from_stop c x0 j ≤ from_stop c x0 (suc j)
wider c x0 j =
    let more : j * (j + 1) ≤ suc j * (suc j + 1) = mul-le-mul (omega arith) (omega arith) in
    let times : c * (j * (j + 1)) ≤ c * (suc j * (suc j + 1)) = mul-le-mul (le_refl c) more in
    omega arith

module _ (move : ℕ → ℕ) (c x0 : ℕ) where
  abbrev count : ℕ → ℕ → ℕ → ℕ → ℕ
  count j h x y = steps_from_stop move c x0 j h x y

  count_stuck : (h j x y : ℕ) → move x ≡ 0 → x < y → x ≤ from_stop c x0 j → count j h x y ≡ suc h
  count_stuck zero j x y none ahead in_reach = if_not_there (nat_le y x) x y 1 refl ahead
  count_stuck (suc h) j x y none ahead in_reach =
      let w = wider c x0 j in
      let same : min (x + move x) (from_stop c x0 (suc j)) ≡ x = omega arith in
      if_not_there (nat_le y x) x y (suc (count (suc j) h (min (x + move x) (from_stop c x0 (suc j))) y)) refl ahead
      ∙ ap (λ n. suc (count (suc j) h n y)) same ∙ ap (λ n. suc n) (count_stuck h (suc j) x y none ahead (omega arith))

  pub stop_on : (most ticks x y u all next : ℕ) → ticks < most → x < y → u ≡ move x → next ≡ min (x + u) (from_stop c x0 (ticks + 1))
      → all ≡ ticks + count ticks (most - ticks) x y → all ≡ ticks + 1 + count (ticks + 1) (most - (ticks + 1)) next y
  stop_on most ticks x y u all next fewer ahead same at h =
      let left : most - ticks ≡ suc (most - (ticks + 1)) = omega arith in
      let later : suc ticks ≡ ticks + 1 = omega arith in
      let moved : min (x + move x) (from_stop c x0 (suc ticks)) ≡ next = sym (at ∙ ap₂ (λ n k. min (x + n) (from_stop c x0 k)) same (sym later)) in
      let one : count ticks (most - ticks) x y ≡ suc (count (ticks + 1) (most - (ticks + 1)) next y) =
      ap (λ n. count ticks n x y) left
      ∙ (if_not_there (nat_le y x) x y (suc (count (suc ticks) (most - (ticks + 1)) (min (x + move x) (from_stop c x0 (suc ticks))) y)) refl ahead
      ∙ ap₂ (λ n k. suc (count k (most - (ticks + 1)) n y)) moved later) in
      omega arith

  pub stop_stands : (most ticks x y u all : ℕ) → ticks < most → x < y → x ≤ from_stop c x0 ticks → u ≡ move x → u ≡ 0 → all ≡ ticks + count ticks (most - ticks) x y → all ≡ most + 1
  stop_stands most ticks x y u all fewer ahead in_reach same none h =
      let e = count_stuck (most - ticks) ticks x y (sym same ∙ none) ahead in_reach in
      omega arith
