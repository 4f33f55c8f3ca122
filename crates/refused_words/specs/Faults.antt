-- What is wrong with the text of a design that is refused.
use Rattle.std.specs.Prelude.{◌≡◌, ℕ, List, Option, None, Some}
use Rattle.toml.specs.Data.{Members}
use Rattle.design_table.specs.declared.fault.Code.{Code}
use Rattle.design_table.specs.declared.place.Place.{Place}
use Rattle.refused_words.specs.Refused.{refused_lines}
use Rattle.refused_words.specs.Unread.{IsSpot}

-- of a text that is no TOML, or that is this table and is refused with a code at a place
abbrev pub IsFaultSaid : List ℕ → Option Members → Code → Place → List (List ℕ) → Type 0
IsFaultSaid text None code place lines = IsSpot text lines
IsFaultSaid text (Some ms) code place lines = lines ≡ refused_lines text ms code place
