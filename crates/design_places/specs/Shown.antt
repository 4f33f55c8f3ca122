-- A place of a text, shown: its line and column, and that line.
use Rattle.std.specs.Prelude.{ℕ, List, [], ◌∷◌, ◌++◌, codes, decimal, Option, None, Some}
use Rattle.design_table.specs.declared.place.Place.{Place}
use Rattle.design_places.specs.Places.{place_in}
use Rattle.toml_places.specs.Lines.{column, line_number, line_text}

-- `line 17 column 3`
abbrev pub spot_line : List ℕ → List ℕ → List ℕ
spot_line text rest =
    codes "line " ++ decimal (line_number text rest) ++ codes " column " ++ decimal (column text rest) ++ codes "\n"

-- that line of the text
abbrev pub shown_line : List ℕ → List ℕ → List ℕ
shown_line text rest = line_text text (line_number text rest) ++ codes "\n"

-- where the rest of a text begins
abbrev pub spot_lines : List ℕ → List ℕ → List (List ℕ)
spot_lines text rest = spot_line text rest ∷ shown_line text rest ∷ []

-- where there is such a place
abbrev pub shown : List ℕ → Option (List ℕ) → List (List ℕ)
shown text None = []
shown text (Some rest) = spot_lines text rest

-- where a place of a design of a version stands in its text, if it does
abbrev pub place_lines : ℕ → List ℕ → Place → List (List ℕ)
place_lines version text place = shown text (place_in version text place)
