-- The names of routes, by their numbers.
use Rattle.std.proofs.Common.{◌≡◌, true, ℕ, zero, suc, ◌+◌, ◌≤◌, List, [], ◌∷◌, map, length, get_or, refl, sym, ap, subst, ◌∙◌, arith}
use Rattle.std.proofs.lemmas.List.{length-map}
use Rattle.rail_base.specs.declared.station.Station.{Station}
use Rattle.rail_base.specs.declared.route.RouteNo.{RouteNo}
use Rattle.rail_base.specs.Admission.{is_admitted}
use Rattle.rail_base.specs.Numbering.{entry}
use Rattle.rail_base.specs.Routes.{IsRoute, no_route, route_at}
use Rattle.rail_base.proofs.Lists.{in_entry}
use Rattle.rail_spec.specs.Track.{routes_of}
use Rattle.plan_names.specs.Edges.{AreTexts}
use Rattle.plan_names.specs.Shown.{shown}
use Rattle.plan_names.proofs.Texts.{shown_texts}
use Rattle.named_plans.specs.Numbered.{all_shown}

mapped_at : {X Y : Type 0} (f : X → Y) (xs : List X) (n i : ℕ) (none : X) (other : Y) → i + 1 ≡ n → n ≤ length xs → get_or (map f xs) i other ≡ f (entry none xs n)
mapped_at f [] n i none other at high = absurd (omega arith)
mapped_at f (x ∷ xs) zero i none other at high = absurd (omega arith)
mapped_at f (x ∷ xs) (suc zero) zero none other at high = refl
mapped_at f (x ∷ xs) (suc zero) (suc i) none other at high = absurd (omega arith)
mapped_at f (x ∷ xs) (suc (suc n)) zero none other at high = absurd (omega arith)
mapped_at f (x ∷ xs) (suc (suc n)) (suc i) none other at high = mapped_at f xs (suc n) i none other (omega arith) (omega arith)

module _ (d : Station) where
  -- so many are shown
  pub as_many : (all : List (List (List ℕ))) → all ≡ all_shown d → length all ≡ length (routes_of d)
  as_many all is = ap length is ∙ length-map (routes_of d) (shown d (routes_of d))

  -- the names of the route of a number
  pub names_at : (all : List (List (List ℕ))) (r : RouteNo) (i : ℕ) (names other : List (List ℕ)) → all ≡ all_shown d → IsRoute (routes_of d) r → i + 1 ≡ r.0 → names ≡ get_or all i other → names ≡ shown d (routes_of d) (route_at (routes_of d) r)
  names_at all r i names other is there at e =
      e ∙ ap (λ ks. get_or ks i other) is ∙ mapped_at (shown d (routes_of d)) (routes_of d) r.0 i no_route other at there.1

  -- they are text
  pub texts_at : is_admitted d ≡ true → (r : RouteNo) (names : List (List ℕ)) → IsRoute (routes_of d) r → names ≡ shown d (routes_of d) (route_at (routes_of d) r) → AreTexts names
  texts_at adm r names there is = subst AreTexts (sym is) (shown_texts d adm (route_at (routes_of d) r) (in_entry no_route (routes_of d) r.0 there.0 there.1))
