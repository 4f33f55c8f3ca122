-- Sections whose name may be a slip: on one edge alone, and but for one letter that of another section.
use Rattle.std.specs.Prelude.{ℕ, Bool, false, ◌||◌, ◌&&◌, ◌==◌, nat_lt, List, [], ◌∷◌, ◌++◌, bytes_eq, codes, filter, length, Option, None, Some, if◌then◌else◌}
use Rattle.std.specs.List.{find, flat_map}
use Rattle.rail_base.specs.declared.station.Station.{Station}
use Rattle.rail_base.specs.Numbering.{entry, one_to}

-- a letter is no digit: by digits names are numbered
abbrev pub is_letter : ℕ → Bool
is_letter byte = nat_lt byte 48 || nat_lt 57 byte

-- two names that differ in one letter, which is another one in the one than in the other, or is there more
abbrev pub differ_in_one : List ℕ → List ℕ → Bool
differ_in_one [] [] = false
differ_in_one [] (y ∷ ys) = is_letter y && (length ys == 0)
differ_in_one (x ∷ xs) [] = is_letter x && (length xs == 0)
differ_in_one (x ∷ xs) (y ∷ ys) =
    if x == y then differ_in_one xs ys
    else (is_letter x && (is_letter y && bytes_eq xs ys))
    || ((is_letter y && bytes_eq (x ∷ xs) ys) || (is_letter x && bytes_eq xs (y ∷ ys)))

-- `section xw_2 is on one edge alone: is it xw2?`
abbrev pub slip_line : List ℕ → List ℕ → List ℕ
slip_line name other = codes "section " ++ name ++ codes " is on one edge alone: is it " ++ other ++ codes "?\n"

abbrev pub slips : List ℕ → Option (List ℕ) → List (List ℕ)
slips name None = []
slips name (Some other) = slip_line name other ∷ []

module _ (d : Station) where
  abbrev pub name_of : ℕ → List ℕ
  name_of z = entry [] d.sections z

  -- one edge has the section
  abbrev pub is_lone : ℕ → Bool
  is_lone z = length (filter (λ e. e.section.0 == z) d.edges) == 1

  -- the first section with such another name
  abbrev pub near : ℕ → Option (List ℕ)
  near z = find (differ_in_one (name_of z)) d.sections

  abbrev pub section_looks : ℕ → List (List ℕ)
  section_looks z = if is_lone z then slips (name_of z) (near z) else []

  abbrev pub slipped_sections : List (List ℕ)
  slipped_sections = flat_map section_looks (one_to (length d.sections))
