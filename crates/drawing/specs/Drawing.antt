-- Pictures, their words, and their drawings.
use Rattle.std.specs.Prelude.{◌≡◌, ℕ, ◌+◌, ◌-◌, ◌*◌, Bool, true, ◌||◌, nat_le}
use Rattle.std.specs.Prelude.{List, [], ◌∷◌, ◌++◌, length, map, Option, Some, None}
use Rattle.std.specs.List.{filter_map}
use Rattle.drawing.specs.declared.shape.Point.{Point}
use Rattle.drawing.specs.declared.shape.Shape.{Shape}
use Rattle.drawing.specs.declared.shape.Shape.TheVariants.{Line, Bar, Frame, Dot, Words, Label, Dotted, Ring, Titled, TitledEnd, Note}
use Rattle.drawing.specs.declared.shape.Area.{Area}
use Rattle.rail_base.specs.Members.{all_pairs}
use Rattle.drawing.specs.Lines.{end_line, ground_line, head_line, shape_line}

-- the words of a shape
abbrev pub shape_words : Shape → Option (List ℕ)
shape_words (Line points color width) = None
shape_words (Bar corner width height color) = None
shape_words (Frame corner width height color) = None
shape_words (Dot center radius color) = None
shape_words (Words place anchor color text) = Some text
shape_words (Label place style color text) = Some text
shape_words (Dotted points color width) = None
shape_words (Ring center radius color) = None
shape_words (Titled title) = None
shape_words TitledEnd = None
shape_words (Note place anchor color text) = None

-- the words of a picture, in order
abbrev pub words_in : List Shape → List (List ℕ)
words_in picture = filter_map shape_words picture

-- the lines of a drawing of a picture, of a size in px to the right and below
abbrev pub drawing_of : Point → List Shape → List (List ℕ)
drawing_of size picture = head_line size ∷ ground_line ∷ map shape_line picture ++ end_line ∷ []

-- these are the lines of a drawing of the picture, of some size
abbrev pub IsDrawingOf : List Shape → List (List ℕ) → Type 0
IsDrawingOf picture lines = (size : Point) × (lines ≡ drawing_of size picture)

-- ---- labels

-- the area that a label takes in at most: 6 px for a character, and 2 px more
abbrev pub label_area : Point → List ℕ → Area
label_area place text = record {
  left = place.x;
  top = place.y - 9;
  right = place.x + 6 * length text + 2;
  bottom = place.y + 2;
}

-- the area of a shape that is a label
abbrev pub shape_area : Shape → Option Area
shape_area (Line points color width) = None
shape_area (Bar corner width height color) = None
shape_area (Frame corner width height color) = None
shape_area (Dot center radius color) = None
shape_area (Words place anchor color text) = None
shape_area (Label place style color text) = Some (label_area place text)
shape_area (Dotted points color width) = None
shape_area (Ring center radius color) = None
shape_area (Titled title) = None
shape_area TitledEnd = None
shape_area (Note place anchor color text) = None

-- the areas of the labels of a picture, in order
abbrev pub areas_in : List Shape → List Area
areas_in picture = filter_map shape_area picture

-- the two have no point inside both
abbrev pub are_disjoint : Area → Area → Bool
are_disjoint a b = nat_le a.right b.left || nat_le b.right a.left || nat_le a.bottom b.top || nat_le b.bottom a.top

-- no label meets another one
abbrev pub LabelsAreApart : List Shape → Type 0
LabelsAreApart picture = all_pairs are_disjoint (areas_in picture) ≡ true
