-- Texts of all members of a list, one after another.
use Rattle.std.proofs.Common.{◌≡◌, ℕ, ◌+◌, ◌<◌, ◌≤◌, List, [], ◌∷◌, ◌++◌, codes, take, length, get_or, refl, ap, sym, ◌∙◌, append_assoc, arith}
use Rattle.std.proofs.lemmas.List.{take_more, flat_map_more}
use Rattle.rail_base.specs.declared.station.Station.{Station}
use Rattle.rail_base.specs.declared.route.Route.{Route}
use Rattle.rail_base.specs.declared.route.RouteNo.{RouteNo}
use Rattle.cone_words.specs.Phrases.{each_after}
use Rattle.cone_words.specs.Routes.{any_route_text}
use Rattle.evidence_words.specs.Bounds.{unused_text}

-- the words, and the text of one member more
pub each_more : {X : Type 0} (between : List ℕ) (text : X → List ℕ) (xs : List X) (i : ℕ) (x : X) (old mid apart new : List ℕ)
    → i < length xs → x ≡ get_or xs i x → mid ≡ old ++ each_after between text (take i xs) → apart ≡ mid ++ between → new ≡ apart ++ text x
    → new ≡ old ++ each_after between text (take (i + 1) xs)
each_more between text xs i x old mid apart new lt is before sep last =
    let whole : new ≡ mid ++ (between ++ text x) = last ∙ ap (λ z. z ++ text x) sep ∙ append_assoc mid between (text x) in
    let more : take (i + 1) xs ≡ take i xs ++ x ∷ [] = take_more xs i x lt ∙ ap (λ y. take i xs ++ y ∷ []) (sym is) in
    whole ∙ rw (before, more) (flat_map_more (λ y. between ++ text y) old (take i xs) x)

-- routes that are not used, where there are any
pub unused_is : (d : Station) (routes : List Route) (rs : List RouteNo) → 1 ≤ length rs → codes ", since it does not use " ++ any_route_text d routes rs ≡ unused_text d routes rs
unused_is d routes [] some = absurd (omega arith)
unused_is d routes (r ∷ rs) some = refl
