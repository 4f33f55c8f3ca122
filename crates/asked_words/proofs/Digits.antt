-- Digits, the first and the rest.
use Rattle.std.proofs.Common.{◌≡◌, ℕ, zero, suc, ◌+◌, ◌-◌, ◌<◌, ◌^◌, ◌/◌, ◌%◌, ◌==◌, false, ◌∷◌, arith}
use Rattle.std.proofs.lemmas.Bool.Decides.{nat_tests}
use Rattle.asked_words.specs.Quantities.{digits_of}

-- a number that is not 0 has a digit
pub some_digits : (k n : ℕ) → n < 10 ^ k → (n == 0) ≡ false → 0 < k
some_digits zero n fits some = let none : n ≡ 0 = omega (arith, fits) in absurd (grind (arith, nat_tests, none, some))
some_digits (suc k) n fits some = omega arith

pub digits_more : (k n : ℕ) → 0 < k → (n == 0) ≡ false → digits_of k n ≡ (48 + n / 10 ^ (k - 1)) ∷ digits_of (k - 1) (n % 10 ^ (k - 1))
digits_more zero n none some = absurd (omega (arith, none))
digits_more (suc k) n any some =
    let less : suc k - 1 ≡ k = omega arith in
    rw (less, some)
