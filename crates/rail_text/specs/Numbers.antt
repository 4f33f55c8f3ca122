-- Numbers in decimal digits.
use Rattle.std.specs.Prelude.{ℕ, ◌^◌, Bool, ◌&&◌, List, length, nat_le, nat_lt, Option, Some, None, if◌then◌else◌}
use Rattle.std.specs.Char.{is_ascii_digit}
use Rattle.std.specs.List.{list_all}
use Rattle.std.specs.Str.Parse.{digits_value}

-- 1 to 20 decimal digits
abbrev pub is_numeral : List ℕ → Bool
is_numeral bytes = nat_le 1 (length bytes) && nat_le (length bytes) 20 && list_all is_ascii_digit bytes

-- the number that 1 to 20 decimal digits write, where it fits 64 bits
abbrev pub number_of : List ℕ → Option ℕ
number_of bytes =
    if is_numeral bytes && nat_lt (digits_value 10 bytes) (2 ^ 64) then Some (digits_value 10 bytes) else None
