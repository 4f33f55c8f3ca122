-- Parts of a line: attributes, points, colours and escaped text.
use Rattle.std.specs.Prelude.{ℕ, ◌+◌, ◌*◌, ◌%◌, ◌==◌, ◌||◌}
use Rattle.std.specs.Prelude.{List, [], ◌∷◌, ◌++◌, codes, decimal, nat_lt, slice_range, if◌then◌else◌}
use Rattle.std.specs.List.{flat_map}
use Rattle.drawing.specs.declared.shape.Point.{Point}
use Rattle.drawing.specs.declared.shape.Anchor.{Anchor}
use Rattle.drawing.specs.declared.shape.Anchor.TheVariants.{Start, Middle, End}
use Rattle.drawing.specs.declared.shape.Color.{Color}
use Rattle.drawing.specs.declared.shape.Color.TheVariants.{Black, White, Gray, Red, Green, Hue, Named}
use Rattle.drawing.specs.declared.shape.Style.{Style}
use Rattle.drawing.specs.declared.shape.Style.TheVariants.{Plain, Bold, Italic}

-- ` <name>='<number>'`
abbrev pub attribute : List ℕ → ℕ → List ℕ
attribute name number = codes " " ++ name ++ codes "='" ++ decimal number ++ codes "'"

-- ` <x>,<y>`
abbrev pub point_text : Point → List ℕ
point_text point = codes " " ++ decimal point.x ++ codes "," ++ decimal point.y

-- 24 colours that can be read on white, one after the other
abbrev pub named_colors : List ℕ
named_colors =
    codes "#ca3c2f#813712#956523#594c0d#6c741b#3d550c#457c1d#1a590d#1e8026#0d5926#1e8057#0d594c"
    ++ codes "#1f7c84#115374#2f6ec6#1d3bcd#645ad8#5a1ed2#9a49d4#821698#be2db2#931569#ca2f70#98162b"

-- a colour
abbrev pub color_text : Color → List ℕ
color_text Black = codes "#222"
color_text White = codes "#fff"
color_text Gray = codes "#aaa"
color_text Red = codes "#c22"
color_text Green = codes "#282"
color_text (Hue hue) = codes "hsl(" ++ decimal hue ++ codes ",65%,42%)"
color_text (Named number) = slice_range named_colors (number % 24 * 7) (number % 24 * 7 + 7)

-- how a text is written
abbrev pub style_text : Style → List ℕ
style_text Plain = codes ""
style_text Bold = codes " font-weight='bold'"
style_text Italic = codes " font-style='italic'"

-- which part of a text stands at its place
abbrev pub anchor_text : Anchor → List ℕ
anchor_text Start = codes "start"
anchor_text Middle = codes "middle"
anchor_text End = codes "end"

-- a byte of a text: what XML keeps for itself by its name there, and what is no printable ASCII as U+FFFD
abbrev pub escaped_byte : ℕ → List ℕ
escaped_byte byte =
    if byte == 38 then codes "&amp;"
    else if byte == 60 then codes "&lt;"
    else if byte == 62 then codes "&gt;"
    else if byte == 34 then codes "&quot;"
    else if byte == 39 then codes "&#39;"
    else if nat_lt byte 32 || nat_lt 126 byte then 239 ∷ 191 ∷ 189 ∷ []
    else byte ∷ []

-- a text, so that XML reads it as text
abbrev pub escaped : List ℕ → List ℕ
escaped text = flat_map escaped_byte text
