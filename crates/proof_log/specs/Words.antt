-- The words of a line, and the numbers and literals that they write.
use Rattle.std.specs.Prelude.{ℕ, ◌==◌, Bool, true, false, not, ◌&&◌, ◌||◌, List, [], ◌∷◌, length, nat_le, slice_index}
use Rattle.std.specs.Prelude.{Option, Some, None, option_map, codes, if◌then◌else◌}
use Rattle.std.specs.List.{slice_split}
use Rattle.std.specs.Str.{bytes_eq}
use Rattle.rail_text.specs.Numbers.{number_of}
use Rattle.rail_base.specs.declared.route.RouteNo.{RouteNo}
use Rattle.sat_clause.specs.declared.lit.Lit.{Lit}

abbrev pub is_space : ℕ → Bool
is_space byte = byte == 32

-- the words of a line, parted by one space each
abbrev pub line_words : List ℕ → List (List ℕ)
line_words line = slice_split is_space line

-- at most 18 bytes, and where there are two or more, the first isn't the digit 0
abbrev pub is_short : List ℕ → Bool
is_short word = nat_le (length word) 18 && (nat_le (length word) 1 || not (slice_index word 0 == 48))

-- the number that a word writes, with 1 to 18 digits and no zero in front
abbrev pub plain_number_of : List ℕ → Option ℕ
plain_number_of word = if is_short word then number_of word else None

-- the greatest number of a variable
abbrev pub greatest_variable : ℕ
greatest_variable = 4_294_967_295

-- the greatest number of 18 digits
abbrev pub greatest_clause_number : ℕ
greatest_clause_number = 999_999_999_999_999_999

abbrev pub is_from_1_to : ℕ → ℕ → Bool
is_from_1_to greatest number = nat_le 1 number && nat_le number greatest

-- a number that was read, where it is from 1 to a greatest
abbrev pub if_from_1_to : ℕ → Option ℕ → Option ℕ
if_from_1_to greatest None = None
if_from_1_to greatest (Some number) = if is_from_1_to greatest number then Some number else None

-- at most the greatest number of a variable
abbrev pub is_small : ℕ → Bool
is_small number = nat_le number greatest_variable

-- a number that was read, where it is small
abbrev pub if_small : Option ℕ → Option ℕ
if_small None = None
if_small (Some number) = if is_small number then Some number else None

-- at most the greatest number of 18 digits
abbrev pub is_plain : ℕ → Bool
is_plain number = nat_le number greatest_clause_number

-- a small number, which may be 0
abbrev pub small_number_of : List ℕ → Option ℕ
small_number_of word = if_small (plain_number_of word)

-- the number of a variable
abbrev pub variable_of : List ℕ → Option ℕ
variable_of word = if_from_1_to greatest_variable (plain_number_of word)

-- the number of a route in a path
abbrev pub route_of : List ℕ → Option RouteNo
route_of word = option_map (λ r. record { 0 = r }) (variable_of word)

-- the number of a clause
abbrev pub clause_number_of : List ℕ → Option ℕ
clause_number_of word = if_from_1_to greatest_clause_number (plain_number_of word)

-- a literal: the number of its variable, with `-` before it where it is negated
abbrev pub literal_of : List ℕ → Option Lit
literal_of [] = None
literal_of (first ∷ digits) =
    if first == 45 then option_map (λ v. record { var = v; negated = true }) (variable_of digits)
    else option_map (λ v. record { var = v; negated = false }) (variable_of (first ∷ digits))

-- the word that ends a list
abbrev pub is_end : List ℕ → Bool
is_end word = bytes_eq word (codes "0")

-- a member before those of a list that was found, with what stands after the list
abbrev pub member_before : {X W : Type 0} → Option X → Option (List X × W) → Option (List X × W)
member_before None found = None
member_before (Some member) None = None
member_before (Some member) (Some found) = Some (member ∷ found.0, found.1)

-- the members up to the word `0`, and the words after it
abbrev pub members_of : {X : Type 0} → (List ℕ → Option X) → List (List ℕ) → Option (List X × List (List ℕ))
members_of member [] = None
members_of member (word ∷ more) =
    if is_end word then Some ([], more) else member_before (member word) (members_of member more)
