-- The lines of a text.
use Rattle.std.specs.Prelude.{ℕ, ◌+◌, ◌==◌, Bool, true, false, List, [], ◌∷◌, ◌++◌, if◌then◌else◌}
use Rattle.std.specs.List.{slice_split}

-- a line: its place, whether an LF ends it, and its bytes without that LF
pub record Line : Type 0 where
  pub line : ℕ
  pub ended : Bool
  pub bytes : List ℕ

abbrev pub is_lf : ℕ → Bool
is_lf byte = byte == 10

-- the bytes after the last LF are a line where there are any
abbrev pub last_piece : ℕ → List ℕ → List Line
last_piece line [] = []
last_piece line (byte ∷ more) = record { line = line; ended = false; bytes = byte ∷ more } ∷ []

-- the parts between the LFs of a text, as lines from this place on
abbrev pub pieces_of_parts : ℕ → List (List ℕ) → List Line
pieces_of_parts line [] = []
pieces_of_parts line (last ∷ []) = last_piece line last
pieces_of_parts line (part ∷ next ∷ more) =
    record { line = line; ended = true; bytes = part } ∷ pieces_of_parts (line + 1) (next ∷ more)

-- the lines of a text, from this place on
abbrev pub pieces_from : ℕ → List ℕ → List Line
pieces_from line text = pieces_of_parts line (slice_split is_lf text)

-- the lines of a text, counted from 1
abbrev pub pieces : List ℕ → List Line
pieces text = pieces_from 1 text

-- the text of lines
abbrev pub text_of : List Line → List ℕ
text_of [] = []
text_of (line ∷ lines) = line.bytes ++ (if line.ended then 10 ∷ [] else []) ++ text_of lines
