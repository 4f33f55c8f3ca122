-- The lines of shapes, each with its LF.
use Rattle.std.specs.Prelude.{ℕ, List, ◌++◌, codes}
use Rattle.std.specs.List.{flat_map}
use Rattle.drawing.specs.declared.shape.Point.{Point}
use Rattle.drawing.specs.declared.shape.Anchor.{Anchor}
use Rattle.drawing.specs.declared.shape.Color.{Color}
use Rattle.drawing.specs.declared.shape.Style.{Style}
use Rattle.drawing.specs.declared.shape.Style.TheVariants.{Plain}
use Rattle.drawing.specs.declared.shape.Anchor.TheVariants.{Start}
use Rattle.drawing.specs.declared.shape.Shape.{Shape}
use Rattle.drawing.specs.declared.shape.Shape.TheVariants.{Line, Bar, Frame, Dot, Words, Label, Dotted, Ring, Titled, TitledEnd, Note}
use Rattle.drawing.specs.Parts.{anchor_text, attribute, color_text, escaped, point_text, style_text}

-- a line from point to point
abbrev pub line_line : List Point → Color → ℕ → List ℕ
line_line points color width =
    codes "<polyline points='" ++ flat_map point_text points ++ codes "' fill='none' stroke='" ++ color_text color
    ++ codes "'" ++ attribute (codes "stroke-width") width ++ codes "/>\n"

-- a filled bar
abbrev pub bar_line : Point → ℕ → ℕ → Color → List ℕ
bar_line corner width height color =
    codes "<rect" ++ attribute (codes "x") corner.x ++ attribute (codes "y") corner.y
    ++ attribute (codes "width") width ++ attribute (codes "height") height
    ++ codes " fill='" ++ color_text color ++ codes "'/>\n"

-- an empty bar with a dashed outline
abbrev pub frame_line : Point → ℕ → ℕ → Color → List ℕ
frame_line corner width height color =
    codes "<rect" ++ attribute (codes "x") corner.x ++ attribute (codes "y") corner.y
    ++ attribute (codes "width") width ++ attribute (codes "height") height
    ++ codes " fill='none' stroke-dasharray='3' stroke='" ++ color_text color ++ codes "'/>\n"

-- a filled disc
abbrev pub dot_line : Point → ℕ → Color → List ℕ
dot_line center radius color =
    codes "<circle" ++ attribute (codes "cx") center.x ++ attribute (codes "cy") center.y
    ++ attribute (codes "r") radius ++ codes " fill='" ++ color_text color ++ codes "'/>\n"

-- the style and the colour of a text
abbrev pub text_look : Style → Color → List ℕ
text_look style color = codes "'" ++ style_text style ++ codes " fill='" ++ color_text color ++ codes "'>"

-- a text
abbrev pub text_line : Point → Anchor → Style → Color → List ℕ → List ℕ
text_line place anchor style color text =
    codes "<text" ++ attribute (codes "x") place.x ++ attribute (codes "y") place.y
    ++ codes " text-anchor='" ++ anchor_text anchor ++ text_look style color ++ escaped text ++ codes "</text>\n"

-- a dotted line from point to point
abbrev pub dotted_line : List Point → Color → ℕ → List ℕ
dotted_line points color width =
    codes "<polyline points='" ++ flat_map point_text points ++ codes "' fill='none' stroke-dasharray='2 3' stroke='"
    ++ color_text color ++ codes "'" ++ attribute (codes "stroke-width") width ++ codes "/>\n"

-- a white disc with a ring around it
abbrev pub ring_line : Point → ℕ → Color → List ℕ
ring_line center radius color =
    codes "<circle" ++ attribute (codes "cx") center.x ++ attribute (codes "cy") center.y
    ++ attribute (codes "r") radius ++ codes " fill='white' stroke-width='2' stroke='" ++ color_text color ++ codes "'/>\n"

-- a title for what follows, and its end
abbrev pub titled_line : List ℕ → List ℕ
titled_line title = codes "<g><title>" ++ escaped title ++ codes "</title>\n"

abbrev pub titled_end_line : List ℕ
titled_end_line = codes "</g>\n"

-- the line of a shape
abbrev pub shape_line : Shape → List ℕ
shape_line (Line points color width) = line_line points color width
shape_line (Bar corner width height color) = bar_line corner width height color
shape_line (Frame corner width height color) = frame_line corner width height color
shape_line (Dot center radius color) = dot_line center radius color
shape_line (Words place anchor color text) = text_line place anchor Plain color text
shape_line (Label place style color text) = text_line place Start style color text
shape_line (Dotted points color width) = dotted_line points color width
shape_line (Ring center radius color) = ring_line center radius color
shape_line (Titled title) = titled_line title
shape_line TitledEnd = titled_end_line
shape_line (Note place anchor color text) = text_line place anchor Plain color text

-- the line that begins a drawing of a size
abbrev pub head_line : Point → List ℕ
head_line size =
    codes "<svg xmlns='http://www.w3.org/2000/svg'" ++ attribute (codes "width") size.x
    ++ attribute (codes "height") size.y ++ codes " font-family='Helvetica, Arial, sans-serif' font-size='10' stroke-linejoin='round'>\n"

-- the line of the white ground
abbrev pub ground_line : List ℕ
ground_line = codes "<rect width='100%' height='100%' fill='white'/>\n"

-- the line that ends a drawing
abbrev pub end_line : List ℕ
end_line = codes "</svg>\n"
