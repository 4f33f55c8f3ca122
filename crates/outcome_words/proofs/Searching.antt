-- The first in the lists of some members that passes a test, member by member.
use Rattle.std.proofs.Common.{◌≡◌, ℕ, ◌+◌, ◌<◌, Bool, List, ◌∷◌, drop, find, flat_map, get_or, length, Option, None, Some, sym, ap, ◌∙◌}
use Rattle.std.proofs.lemmas.List.{drop_more}
use Rattle.rail_require.proofs.Finding.{find-append_none, find-append_some}

module _ {X Y : Type 0} (test : Y → Bool) (f : X → List Y) (xs : List X) (i : ℕ) (d : X) (lt : i < length xs) where
  one_more : drop i xs ≡ get_or xs i d ∷ drop (i + 1) xs
  one_more = drop_more xs i d lt

  -- it is in this member's list
  pub found_here : (y : Y) (all : Option Y) → find test (f (get_or xs i d)) ≡ Some y → find test (flat_map f (drop i xs)) ≡ all → Some y ≡ all
  found_here y all here before =
      sym (ap (λ ys. find test (flat_map f ys)) one_more ∙ find-append_some test (f (get_or xs i d)) (flat_map f (drop (i + 1) xs)) y here) ∙ before

  -- it is not
  pub found_later : (all : Option Y) → find test (f (get_or xs i d)) ≡ None → find test (flat_map f (drop i xs)) ≡ all → find test (flat_map f (drop (i + 1) xs)) ≡ all
  found_later all none before =
      sym (ap (λ ys. find test (flat_map f ys)) one_more ∙ find-append_none test (f (get_or xs i d)) (flat_map f (drop (i + 1) xs)) none) ∙ before
