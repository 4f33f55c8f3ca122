-- What is gathered from lists in a row, one list further.
use Rattle.std.proofs.Common.{◌≡◌, ℕ, ◌+◌, ◌<◌, Bool, ◌&&◌, List, [], ◌∷◌, ◌++◌, map, filter, flat_map, length, drop, get_or, refl, sym, ap, ◌∙◌, append_assoc}
use Rattle.std.specs.List.{list_all}
use Rattle.std.proofs.lemmas.List.{drop_more}
use Rattle.std.proofs.lemmas.List.Folds.{list_all-append}
use Rattle.rail_base.proofs.Members.{filter-append}

-- what is made of the next of a list is added, and what is left to make is that of those behind it
pub made_more : {X Y : Type 0} (f : X → Y) (old new : List Y) (xs : List X) (i : ℕ) (x : X) (y : Y) (all : List Y) → i < length xs → x ≡ get_or xs i x → new ≡ old ++ y ∷ [] → y ≡ f x → old ++ map f (drop i xs) ≡ all → new ++ map f (drop (i + 1) xs) ≡ all
made_more f old new xs i x y all less is added made left =
    let rest = map f (drop (i + 1) xs) in
    ap (λ ys. ys ++ rest) added ∙ append_assoc old (y ∷ []) rest ∙ ap (λ z. old ++ z ∷ rest) (made ∙ ap f is)
    ∙ ap (λ zs. old ++ map f zs) (sym (drop_more xs i x less)) ∙ left

-- those that lists in a row keep pass exactly where those pass that are kept of all
pub kept_steps : {X : Type 0} (test keep : X → Bool) (lists : List (List X)) → list_all (λ xs. list_all test (filter keep xs)) lists ≡ list_all test (filter keep (flat_map (λ xs. xs) lists))
kept_steps test keep [] = refl
kept_steps test keep (xs ∷ lists) =
    let rest = flat_map (λ ys. ys) lists in
    ap (λ b. list_all test (filter keep xs) && b) (kept_steps test keep lists)
    ∙ sym (ap (list_all test) (filter-append keep xs rest) ∙ list_all-append test (filter keep xs) (filter keep rest))
