-- The words of a picture with one more shape.
use Rattle.std.proofs.Common.{◌≡◌, ℕ, ◌+◌, ◌<◌, ◌≤◌, List, [], ◌∷◌, ◌++◌, length, take, map, get_or, Some, None, Result, Ok, Err, OnOk, ◌∙◌, refl, ap, append_assoc}
use Rattle.std.proofs.lemmas.List.{append-nil, take_more, map-append, take_all}
use Rattle.std.proofs.lemmas.List.Elements.{filter_map-append}
use Rattle.drawing.specs.declared.shape.Shape.{Shape}
use Rattle.drawing.specs.Drawing.{areas_in, shape_area, shape_words, words_in}

-- a shape with words
pub one_word : (old : List Shape) (shape : Shape) (text : List ℕ) → shape_words shape ≡ Some text → words_in (old ++ shape ∷ []) ≡ words_in old ++ text ∷ []
one_word old shape text is = rw (filter_map-append shape_words old (shape ∷ []), is) refl

-- a shape without
pub no_word : (old : List Shape) (shape : Shape) → shape_words shape ≡ None → words_in (old ++ shape ∷ []) ≡ words_in old
no_word old shape is = rw (filter_map-append shape_words old (shape ∷ []), is) (append-nil (words_in old))

-- the same, where there is memory for it
module _ {A E : Type 0} where
  pub adds_word : (r : Result A E) (old new : List Shape) (shape : Shape) (text : List ℕ) → shape_words shape ≡ Some text → OnOk r (new ≡ old ++ shape ∷ []) → OnOk r (words_in new ≡ words_in old ++ text ∷ [])
  adds_word (Ok x) old new shape text is h = ap words_in h ∙ one_word old shape text is
  adds_word (Err e) old new shape text is h = tt

  pub adds_none : (r : Result A E) (old new : List Shape) (shape : Shape) → shape_words shape ≡ None → OnOk r (new ≡ old ++ shape ∷ []) → OnOk r (words_in new ≡ words_in old)
  adds_none (Ok x) old new shape is h = ap words_in h ∙ no_word old shape is
  adds_none (Err e) old new shape is h = tt

  pub adds_no_area : (r : Result A E) (old new : List Shape) (shape : Shape) → shape_area shape ≡ None → OnOk r (new ≡ old ++ shape ∷ []) → OnOk r (areas_in new ≡ areas_in old)
  adds_no_area (Ok x) old new shape is h = ap areas_in h ∙ rw (filter_map-append shape_area old (shape ∷ []), is) (append-nil (areas_in old))
  adds_no_area (Err e) old new shape is h = tt

-- ---- names put one by one

module _ (ys : List (List ℕ)) (i : ℕ) (y : List ℕ) (lt : i < length ys) (is : y ≡ get_or ys i y) where
  pub one_listed : (old mid new : List (List ℕ)) → mid ≡ old ++ take i ys → new ≡ mid ++ y ∷ [] → new ≡ old ++ take (i + 1) ys
  one_listed old mid new before more =
      let one : take (i + 1) ys ≡ take i ys ++ y ∷ [] = rw (take_more ys i y lt, ← is) refl in
      more ∙ rw (before, one) (append_assoc old (take i ys) (y ∷ []))

module _ {X : Type 0} (name : X → List ℕ) (xs : List X) (i : ℕ) (x : X) (lt : i < length xs) (is : x ≡ get_or xs i x) where
  pub one_named : (old mid new : List (List ℕ)) → mid ≡ old ++ map name (take i xs) → new ≡ mid ++ name x ∷ [] → new ≡ old ++ map name (take (i + 1) xs)
  one_named old mid new before more =
      let one : take (i + 1) xs ≡ take i xs ++ x ∷ [] = rw (take_more xs i x lt, ← is) refl in
      more ∙ rw (before, one, map-append name (take i xs) (x ∷ [])) (append_assoc old (map name (take i xs)) (name x ∷ []))

pub all_named : {X : Type 0} (name : X → List ℕ) (xs : List X) (i : ℕ) → length xs ≤ i → map name (take i xs) ≡ map name xs
all_named name xs i past = ap (map name) (take_all i xs past)
