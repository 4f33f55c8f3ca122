-- The areas of the labels of a picture with one more shape.
use Rattle.std.proofs.Common.{◌≡◌, ℕ, ◌+◌, ◌<◌, Bool, true, false, ◌&&◌, List, [], ◌∷◌, ◌++◌, length, take, get_or, Some, None, ◌∙◌, refl, ap}
use Rattle.std.specs.List.{list_all}
use Rattle.std.proofs.lemmas.List.{append-nil, take_more}
use Rattle.std.proofs.lemmas.List.Elements.{filter_map-append}
use Rattle.std.proofs.lemmas.List.Folds.{list_all-append}
use Rattle.rail_base.specs.Members.{all_pairs}
use Rattle.drawing.specs.declared.shape.Area.{Area}
use Rattle.drawing.specs.declared.shape.Shape.{Shape}
use Rattle.drawing.specs.Drawing.{LabelsAreApart, are_disjoint, areas_in, shape_area}

both : (p q : Bool) → (p && q) ≡ true → (p ≡ true) × (q ≡ true)
both true q h = (refl, h)
both false q h = absurd (cc)

joined : (p q : Bool) → p ≡ true → q ≡ true → (p && q) ≡ true
joined true q p h = h
joined false q p h = absurd (cc)

-- ---- shapes one by one

pub more_room : (area : Area) (shapes : List Shape) (i : ℕ) (shape : Shape) → i < length shapes → shape ≡ get_or shapes i shape
    → list_all (λ other. are_disjoint other area) (areas_in (take i shapes)) ≡ true
    → list_all (λ other. are_disjoint other area) (areas_in (shape ∷ [])) ≡ true
    → list_all (λ other. are_disjoint other area) (areas_in (take (i + 1) shapes)) ≡ true
more_room area shapes i shape lt is before here =
    let one : take (i + 1) shapes ≡ take i shapes ++ shape ∷ [] = rw (take_more shapes i shape lt, ← is) refl in
    rw (one, filter_map-append shape_area (take i shapes) (shape ∷ []), list_all-append (λ other. are_disjoint other area) (areas_in (take i shapes)) (areas_in (shape ∷ [])))
    (joined _ _ before here)

-- ---- one more area

pairs_more : {X : Type 0} (test : X → X → Bool) (xs : List X) (x : X) → list_all (λ y. test y x) xs ≡ true → all_pairs test xs ≡ true → all_pairs test (xs ++ x ∷ []) ≡ true
pairs_more test [] x away before = refl
pairs_more test (y ∷ ys) x away before =
    let a = both (test y x) (list_all (λ z. test z x) ys) away in
    let b = both (list_all (test y) ys) (all_pairs test ys) before in
    joined _ _ (rw (list_all-append (test y) ys (x ∷ [])) (joined _ _ b.0 (joined _ _ a.0 refl))) (pairs_more test ys x a.1 b.1)

pub label_keeps : (old new : List Shape) (shape : Shape) (area : Area) → new ≡ old ++ shape ∷ [] → shape_area shape ≡ Some area
    → list_all (λ other. are_disjoint other area) (areas_in old) ≡ true → LabelsAreApart old → LabelsAreApart new
label_keeps old new shape area more is away before =
    let all : areas_in new ≡ areas_in old ++ area ∷ [] = ap areas_in more ∙ rw (filter_map-append shape_area old (shape ∷ []), is) refl in
    rw all (pairs_more are_disjoint (areas_in old) area away before)

pub other_keeps : (old new : List Shape) (shape : Shape) → new ≡ old ++ shape ∷ [] → shape_area shape ≡ None
    → LabelsAreApart old → LabelsAreApart new
other_keeps old new shape more is before =
    let all : areas_in new ≡ areas_in old = ap areas_in more ∙ rw (filter_map-append shape_area old (shape ∷ []), is) (append-nil (areas_in old)) in
    rw all before
