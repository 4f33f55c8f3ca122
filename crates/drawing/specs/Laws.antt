-- What the lines of a drawing say.
use Rattle.std.specs.Prelude.{◌≡◌, ℕ, ◌==◌, ◌||◌, Bool, true, List}
use Rattle.std.specs.List.{list_all}
use Rattle.rail_base.specs.Admission.{is_name_byte}
use Rattle.rail_base.specs.Members.{In}
use Rattle.drawing.specs.declared.shape.Point.{Point}
use Rattle.drawing.specs.declared.shape.Anchor.{Anchor}
use Rattle.drawing.specs.declared.shape.Color.{Color}
use Rattle.drawing.specs.declared.shape.Style.{Style}
use Rattle.drawing.specs.declared.shape.Shape.{Shape}
use Rattle.drawing.specs.Parts.{escaped}
use Rattle.drawing.specs.Lines.{text_line}
use Rattle.drawing.specs.Drawing.{IsDrawingOf, words_in}

-- a line of these is that of a text, somewhere and in some colour
pub record Shows (lines : List (List ℕ)) (text : List ℕ) : Type 0 where
  pub place : Point
  pub anchor : Anchor
  pub style : Style
  pub color : Color
  pub there : In (text_line place anchor style color text) lines

-- each of the words of a picture is the text of a line of its drawing
abbrev pub WordsAreInLines : Type 0
WordsAreInLines = (picture : List Shape) (lines : List (List ℕ)) (text : List ℕ) → IsDrawingOf picture lines
    → In text (words_in picture) → Shows lines text

-- a letter, a digit, `_`, `-` or a space
abbrev pub is_plain_byte : ℕ → Bool
is_plain_byte byte = is_name_byte byte || (byte == 32)

-- a text of these stays as it is when it is escaped
abbrev pub NamesStay : Type 0
NamesStay = (text : List ℕ) → list_all is_plain_byte text ≡ true → escaped text ≡ text
