-- A refused design in words: where its fault stands in the text, and what is wrong there.
use Rattle.std.specs.Prelude.{ℕ, List, [], ◌∷◌, ◌++◌, codes, decimal, Option, None, Some, option_and_then, unwrap_or}
use Rattle.toml.specs.Data.{Members}
use Rattle.toml_places.specs.Finding.{name_at}
use Rattle.toml_places.specs.Lines.{line_number}
use Rattle.design_table.specs.declared.fault.Code.{Code}
use Rattle.design_table.specs.declared.fault.Code.TheVariants.{D03}
use Rattle.design_table.specs.declared.place.Place.{Place}
use Rattle.design_table.specs.Keys.{version_number}
use Rattle.design_table.specs.Parsed.{ParsedSheet}
use Rattle.design_table.specs.Sheet.{form_fault, sheet_of, version_of}
use Rattle.design_places.specs.Places.{place_in}
use Rattle.design_places.specs.Shown.{place_lines}
use Rattle.fault_words.specs.Faults.{fault_sentence}
use Rattle.fault_words.specs.Forms.{form_sentence}
use Rattle.fault_words.specs.Names.{first_place}

-- of a text
module _ (text : List ℕ) where
  -- the name of the key at a place, in a version of designs
  abbrev pub name_in : ℕ → Place → List ℕ
  name_in version place = unwrap_or (option_and_then name_at (place_in version text place)) []

  -- `it stands first in line 4`
  abbrev pub first_line : Option (List ℕ) → List (List ℕ)
  first_line None = []
  first_line (Some rest) = (codes "it stands first in line " ++ decimal (line_number text rest) ++ codes "\n") ∷ []

  -- of a name that stands twice: where it stands first
  abbrev pub first_lines : ParsedSheet → Code → Place → List (List ℕ)
  first_lines s D03 place =
      first_line (option_and_then (place_in (version_number s.version) text) (first_place s place))
  first_lines s _ place = []

  -- what is wrong with a sheet
  abbrev pub fault_lines : ParsedSheet → Code → Place → List (List ℕ)
  fault_lines s code place = fault_sentence s code place ∷ first_lines s code place

  -- what is wrong with the form of a document
  abbrev pub form_lines : Members → Place → List (List ℕ)
  form_lines ms place = form_sentence ms place (name_in (version_of ms) place) ∷ []

  -- what is wrong: with the form of the document where some key has a wrong one, and else with what it says
  abbrev pub said : Members → List Place → Code → Place → List (List ℕ)
  said ms [] code place = fault_lines (sheet_of ms) code place
  said ms (p ∷ ps) code place = form_lines ms place

  -- the line and column, that line, and what is wrong
  abbrev pub refused_lines : Members → Code → Place → List (List ℕ)
  refused_lines ms code place = place_lines (version_of ms) text place ++ said ms (form_fault ms) code place
