-- Words and the lines of a drawing.
use Rattle.std.proofs.Common.{ℕ, inl, inr, List, [], ◌∷◌, ◌++◌, map, ap, sym, subst}
use Rattle.rail_base.specs.Members.{In}
use Rattle.drawing.specs.declared.shape.Shape.{Shape}
use Rattle.drawing.specs.declared.shape.Shape.TheVariants.{Line, Bar, Frame, Dot, Words, Label, Dotted, Ring, Titled, TitledEnd, Note}
use Rattle.drawing.specs.declared.shape.Anchor.TheVariants.{Start}
use Rattle.drawing.specs.declared.shape.Style.TheVariants.{Plain}
use Rattle.drawing.specs.Lines.{end_line, shape_line, text_line}
use Rattle.drawing.specs.Drawing.{drawing_of, words_in}
use Rattle.drawing.specs.Laws.{Shows, WordsAreInLines}

-- the line stands behind
behind : (line : List ℕ) (lines : List (List ℕ)) (text : List ℕ) → Shows lines text → Shows (line ∷ lines) text
behind line lines text h = record { place = h.place; anchor = h.anchor; style = h.style; color = h.color; there = inr h.there }

in_prefix : (x : List ℕ) (xs ys : List (List ℕ)) → In x xs → In x (xs ++ ys)
in_prefix x [] ys h = absurd h
in_prefix x (y ∷ xs) ys (inl is) = inl is
in_prefix x (y ∷ xs) ys (inr h) = inr (in_prefix x xs ys h)

shown : (picture : List Shape) (text : List ℕ) → In text (words_in picture) → Shows (map shape_line picture) text
shown [] text h = absurd h
shown (Line points color width ∷ rest) text h = behind _ _ text (shown rest text h)
shown (Bar corner width height color ∷ rest) text h = behind _ _ text (shown rest text h)
shown (Frame corner width height color ∷ rest) text h = behind _ _ text (shown rest text h)
shown (Dot center radius color ∷ rest) text h = behind _ _ text (shown rest text h)
shown (Note place anchor color other ∷ rest) text h = behind _ _ text (shown rest text h)
shown (Dotted points color width ∷ rest) text h = behind _ _ text (shown rest text h)
shown (Ring center radius color ∷ rest) text h = behind _ _ text (shown rest text h)
shown (Titled title ∷ rest) text h = behind _ _ text (shown rest text h)
shown (TitledEnd ∷ rest) text h = behind _ _ text (shown rest text h)
shown (Label place style color own ∷ rest) text (inl is) = record { place = place; anchor = Start; style = style; color = color; there = inl (ap (text_line place Start style color) is) }
shown (Label place style color own ∷ rest) text (inr h) = behind _ _ text (shown rest text h)
shown (Words place anchor color own ∷ rest) text (inl is) = record { place = place; anchor = anchor; style = Plain; color = color; there = inl (ap (text_line place anchor Plain color) is) }
shown (Words place anchor color own ∷ rest) text (inr h) = behind _ _ text (shown rest text h)

pub words_are_in_lines : WordsAreInLines
words_are_in_lines picture lines text drawing there =
    let h = shown picture text there in
    let all : Shows (drawing_of drawing.0 picture) text = record {
      place = h.place;
      anchor = h.anchor;
      style = h.style;
      color = h.color;
      there = inr (inr (in_prefix _ (map shape_line picture) (end_line ∷ []) h.there));
    } in
    subst (λ (ls : List (List ℕ)). Shows ls text) (sym drawing.1) all
