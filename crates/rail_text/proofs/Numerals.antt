-- What `parse` reads of decimal digits.
use Rattle.std.proofs.Common.{◌≡◌, ℕ, ◌<◌, ◌≤◌, ◌^◌, Bool, true, ◌&&◌, List, length, Some, None, Result, Ok, Err, decimal, ap, rules, lit<, arith, sym, ◌∙◌, nat_le, nat_lt, if◌then◌else◌}
use Rattle.std.specs.Char.{is_ascii_digit}
use Rattle.std.specs.List.{list_all}
use Rattle.std.specs.Result.{OkIff, result_ok}
use Rattle.std.specs.Str.{IsUtf8}
use Rattle.std.specs.Str.Parse.{digits_value, ParsesUnsigned, IsNumeral}
use Rattle.std.proofs.lemmas.Str.{IsUtf8-from_ascii}
use Rattle.std.proofs.lemmas.Str.Parse.{IsDigitsTest, IsNumeralModel, numerals_by_value, parse_digits}
use Rattle.std.proofs.lemmas.Fmt.{IsAscii-from_digits, length-decimal-le, decimal_is_IsNumeral}
use Rattle.std.proofs.lemmas.Bool.Decides.{nat_tests}
use Rattle.rail_text.specs.Numbers.{number_of}

pub digits_test : IsDigitsTest (λ ds. list_all is_ascii_digit ds ≡ true)
digits_test = search rules

pub own : IsNumeralModel (λ ds. list_all is_ascii_digit ds ≡ true) (digits_value 10)
own = numerals_by_value _ digits_test

pub digits_are_text : (ds : List ℕ) → list_all is_ascii_digit ds ≡ true → IsUtf8 ds
digits_are_text ds h = IsUtf8-from_ascii ds (IsAscii-from_digits ds (own.to ds h))

-- the choice by the tests, at plain values
chosen : (all : Bool) (size value : ℕ) → all ≡ true → size ≤ 20 → 0 < size → value < 2 ^ 64
    → (if nat_le 1 size && nat_le size 20 && all && nat_lt value (2 ^ 64) then Some value else None) ≡ Some value
chosen all size value h short some fits = grind (arith, nat_tests)

refused : (all : Bool) (size value : ℕ) → (0 < size × (value < 2 ^ 64) → ⊥)
    → (if nat_le 1 size && nat_le size 20 && all && nat_lt value (2 ^ 64) then Some value else None) ≡ None
refused all size value never = grind (arith, nat_tests)

number_as : {E : Type 0} (ds : List ℕ) (r : Result ℕ E) → length ds ≤ 20 → list_all is_ascii_digit ds ≡ true
    → OkIff r ((0 < length ds) × (digits_value 10 ds < 2 ^ 64)) (digits_value 10 ds) → result_ok r ≡ number_of ds
number_as ds (Ok x) short all h = ap (λ (n : ℕ). Some n) h.1 ∙ sym (chosen (list_all is_ascii_digit ds) (length ds) (digits_value 10 ds) all short h.0.0 h.0.1)
number_as ds (Err e) short all h = sym (refused (list_all is_ascii_digit ds) (length ds) (digits_value 10 ds) h)

pub number_read : {E : Type 0} (ds text : List ℕ) (r : Result ℕ E) → text ≡ ds → length ds ≤ 20 → list_all is_ascii_digit ds ≡ true
    → ParsesUnsigned 64 10 text r → result_ok r ≡ number_of ds
number_read ds text r same short all h = number_as ds r short all (parse_digits own 64 ds r (rw same at h) all)

pub number_of-decimal : (number : ℕ) → number < 2 ^ 64 → number_of (decimal number) ≡ Some number
number_of-decimal number fits =
    let ds : List ℕ = decimal number in
    let numeral : IsNumeral 10 ds = (decimal_is_IsNumeral number fits).0 in
    let is : digits_value 10 ds ≡ number = (decimal_is_IsNumeral number fits).1 in
    let short : length ds ≤ 20 = length-decimal-le 20 number (lit< tt) (omega arith) fits in
    let low : digits_value 10 ds < 2 ^ 64 = omega (arith, is) in
    chosen (list_all is_ascii_digit ds) (length ds) (digits_value 10 ds) (own.from ds numeral.1) short numeral.0 low ∙ ap (λ (n : ℕ). Some n) is
