-- Lines written one by one.
use Rattle.std.proofs.Common.{◌≡◌, ℕ, ◌+◌, ◌<◌, ◌≤◌, List, [], ◌∷◌, ◌++◌, length, take, get_or, Option, Some, None, Vec, Global, refl, sym, ap, ◌∙◌, arith, append_assoc, add_comm}
use Rattle.std.specs.List.{enumerate_from, filter_map, flat_map}
use Rattle.std.proofs.lemmas.List.{take_more, map_push, append-nil, take_all, flat_map_more}
use Rattle.std.proofs.lemmas.List.FromFn.{length-enumerate_from, get_or-enumerate_from}
use Rattle.std.proofs.lemmas.List.Elements.{filter_map-append}
use Rattle.timetable.specs.Lines.{lines_of}

-- the entry at place i, with its number
pub numbered : {X : Type 0} (xs : List X) (i : ℕ) (d : X) → i < length xs → get_or (enumerate_from 1 xs) i (0, d) ≡ (i + 1, get_or xs i d)
numbered xs i d lt = get_or-enumerate_from 1 xs i (0, d) lt ∙ ap (λ (n : ℕ). (n, get_or xs i d)) (add_comm 1 i)

-- the entry that a loop is at, with its number
pub at_hand : {X : Type 0} (xs : List X) (i n : ℕ) (x : X) → i < length xs → (n, x) ≡ get_or (enumerate_from 0 xs) i (n, x) → get_or (enumerate_from 1 xs) i (0, x) ≡ (n + 1, x)
at_hand {X} xs i n x lt at =
    let zero : 0 + i ≡ i = omega arith in
    let here : (n, x) ≡ (i, get_or xs i x) = at ∙ get_or-enumerate_from 0 xs i (n, x) lt ∙ ap (λ (k : ℕ). (k, get_or xs i x)) zero in
    numbered xs i x lt ∙ ap (λ (p : ℕ × X). (p.0 + 1, p.1)) (sym here)

-- all entries, with their numbers
pub all_numbered : {X : Type 0} (xs : List X) (i : ℕ) → length xs ≤ i → take i (enumerate_from 1 xs) ≡ enumerate_from 1 xs
all_numbered xs i past = take_all i (enumerate_from 1 xs) (omega (arith, length-enumerate_from 1 xs))

-- a list of entries, of which the one at place i is y
module _ {Y : Type 0} (ys : List Y) (i : ℕ) (d y : Y) (lt : i < length ys) (is : get_or ys i d ≡ y) where
  one_more : take (i + 1) ys ≡ take i ys ++ y ∷ []
  one_more = rw (take_more ys i d lt, is) refl

  module _ (tell : Y → Option (List ℕ)) where
    -- the entry has no line
    pub none_told : (old lines : List (List ℕ)) → lines ≡ old ++ filter_map tell (take i ys) → tell y ≡ None → lines ≡ old ++ filter_map tell (take (i + 1) ys)
    none_told old lines before none = before ∙ rw (one_more, filter_map-append tell (take i ys) (y ∷ []), none, append-nil (filter_map tell (take i ys))) refl

    -- the line of the entry is written
    pub one_told : (old : List (List ℕ)) (vs : List (Vec ℕ Global)) (v : Vec ℕ Global) → lines_of vs ≡ old ++ filter_map tell (take i ys) → tell y ≡ Some v.items
        → lines_of (vs ++ v ∷ []) ≡ old ++ filter_map tell (take (i + 1) ys)
    one_told old vs v before one =
        map_push (λ (w : Vec ℕ Global). w.items) vs v
        ∙ rw (before, one_more, filter_map-append tell (take i ys) (y ∷ []), one) (append_assoc old (filter_map tell (take i ys)) (v.items ∷ []))

  -- all lines of the entry are written
  pub all_told : (tell : Y → List (List ℕ)) (old mid new : List (List ℕ)) → mid ≡ old ++ flat_map tell (take i ys) → new ≡ mid ++ tell y → new ≡ old ++ flat_map tell (take (i + 1) ys)
  all_told tell old mid new before more = more ∙ rw (before, one_more) (flat_map_more tell old (take i ys) y)
