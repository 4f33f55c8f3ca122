-- A text that is no TOML: where the reader of TOML stops, and what it says there.
use Rattle.std.specs.Prelude.{◌≡◌, ℕ, List, [], ◌∷◌, ◌++◌, Option, Some, None}
use Rattle.toml.specs.Data.{Members}
use Rattle.design_places.specs.Shown.{spot_lines}

-- some place of the text, shown, and something said
abbrev pub IsSpot : List ℕ → List (List ℕ) → Type 0
IsSpot text lines = (rest said : List ℕ) × (lines ≡ spot_lines text rest ++ said ∷ [])

-- nothing of a text that is this table, and else a place of it
abbrev pub SaysUnread : List ℕ → Option Members → List (List ℕ) → Type 0
SaysUnread text (Some ms) lines = lines ≡ []
SaysUnread text None lines = IsSpot text lines
