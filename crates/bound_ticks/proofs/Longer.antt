-- Walks made longer, and what they are.
use Rattle.std.proofs.Common.{◌≡◌, ℕ, suc, ◌+◌, inl, inr, Bool, true, false, if◌then◌else◌, List, [], ◌∷◌, ◌++◌, All, map, filter, flat_map, refl, sym, ap, ap₂, subst, ◌∙◌, arith}
use Rattle.std.proofs.lemmas.List.{map-append}
use Rattle.std.proofs.lemmas.List.Elements.{All-cons}
use Rattle.rail_base.specs.Members.{In}
use Rattle.rail_base.proofs.Lists.{in_flat_map_back, in_map_back, in_filter_back}
use Rattle.rail_course.proofs.Granting.{all_from_in}
use Rattle.rail_base.specs.declared.route.Route.{Route}
use Rattle.rail_base.specs.declared.route.RouteNo.{RouteNo}
use Rattle.rail_base.specs.Routes.{IsRoute, route_at}
use Rattle.rail_course.specs.Tracks.{routes_at}
use Rattle.bound_spec.specs.declared.Place.{Place}
use Rattle.bound_spec.specs.Certificates.{routes_of_place}
use Rattle.bound_spec.specs.Walks.{goes_before, walks}
use Rattle.bound_ticks.specs.Walks.{IsWalk, precedes_walk, longer_by, walks_by_number}

module _ (routes : List Route) where
  pub made_longer : (r : RouteNo) (w : List RouteNo) (ws : List (List RouteNo)) → precedes_walk routes r w ≡ true → longer_by routes (w ∷ ws) r ≡ (r ∷ w) ∷ longer_by routes ws r
  made_longer r w ws h = ap (λ b. map (λ walk. r ∷ walk) (if b then w ∷ filter (precedes_walk routes r) ws else filter (precedes_walk routes r) ws)) h

  pub left_out : (r : RouteNo) (w : List RouteNo) (ws : List (List RouteNo)) → precedes_walk routes r w ≡ false → longer_by routes (w ∷ ws) r ≡ longer_by routes ws r
  left_out r w ws h = ap (λ b. map (λ walk. r ∷ walk) (if b then w ∷ filter (precedes_walk routes r) ws else filter (precedes_walk routes r) ws)) h

  abbrev before_all : List (List Route) → Route → List (List Route)
  before_all ws q = map (λ rs. q ∷ rs) (filter (goes_before q) ws)

  kept : (r : RouteNo) (w : List RouteNo) (ws : List (List RouteNo)) (b : Bool) → precedes_walk routes r w ≡ b → map (routes_at routes) (longer_by routes ws r) ≡ before_all (map (routes_at routes) ws) (route_at routes r)
      → map (routes_at routes) (longer_by routes (w ∷ ws) r) ≡ before_all (map (routes_at routes) (w ∷ ws)) (route_at routes r)
  kept r w ws true e h = ap (map (routes_at routes)) (made_longer r w ws e) ∙ (ap (λ x. routes_at routes (r ∷ w) ∷ x) h ∙ sym (ap (λ b. map (λ rs. route_at routes r ∷ rs) (if b then routes_at routes w ∷ filter (goes_before (route_at routes r)) (map (routes_at routes) ws) else filter (goes_before (route_at routes r)) (map (routes_at routes) ws))) e))
  kept r w ws false e h = ap (map (routes_at routes)) (left_out r w ws e) ∙ (h ∙ sym (ap (λ b. map (λ rs. route_at routes r ∷ rs) (if b then routes_at routes w ∷ filter (goes_before (route_at routes r)) (map (routes_at routes) ws) else filter (goes_before (route_at routes r)) (map (routes_at routes) ws))) e))

  one_longer : (r : RouteNo) (ws : List (List RouteNo)) → map (routes_at routes) (longer_by routes ws r) ≡ before_all (map (routes_at routes) ws) (route_at routes r)
  one_longer r [] = refl
  one_longer r (w ∷ ws) = kept r w ws (precedes_walk routes r w) refl (one_longer r ws)

  all_longer : (place : List RouteNo) (ws : List (List RouteNo)) → map (routes_at routes) (flat_map (longer_by routes ws) place) ≡ flat_map (before_all (map (routes_at routes) ws)) (map (route_at routes) place)
  all_longer [] ws = refl
  all_longer (r ∷ rs) ws = map-append (routes_at routes) (longer_by routes ws r) (flat_map (longer_by routes ws) rs) ∙ ap₂ (λ a b. a ++ b) (one_longer r ws) (all_longer rs ws)

  -- the walks by number are the walks
  pub numbered : (ps : List Place) → map (routes_at routes) (walks_by_number routes ps) ≡ walks (map (λ p. map (route_at routes) (routes_of_place p)) ps)
  numbered [] = refl
  numbered (p ∷ ps) = all_longer (routes_of_place p) (walks_by_number routes ps) ∙ ap (λ ws. flat_map (before_all ws) (map (route_at routes) (routes_of_place p))) (numbered ps)

  all_in : {X : Type 0} (P : X → Type 0) (xs : List X) (x : X) → All P xs → In x xs → P x
  all_in P [] x h m = absurd m
  all_in P (y ∷ ys) x h (inl e) = subst P e (h 0 y (omega arith))
  all_in P (y ∷ ys) x h (inr m) = all_in P ys x (λ k d l. h (suc k) d (omega arith)) m

  with_first : (n : ℕ) (r : RouteNo) (w : List RouteNo) → IsRoute routes r → IsWalk routes n w → IsWalk routes (n + 1) (r ∷ w)
  with_first n r w is walk = record { named = All-cons (IsRoute routes) r w is walk.named; long = let l = walk.long in omega arith }

  -- walks with a route more are longer by one
  pub longer_walks_are : (n : ℕ) (ws : List (List RouteNo)) (place : List RouteNo) → All (IsRoute routes) place → All (IsWalk routes n) ws → All (IsWalk routes (n + 1)) (flat_map (longer_by routes ws) place)
  longer_walks_are n ws place named are = all_from_in (IsWalk routes (n + 1)) (flat_map (longer_by routes ws) place) (λ w m.
      let r = in_flat_map_back (longer_by routes ws) place w m in
      let v = in_map_back (λ walk. r.0 ∷ walk) (filter (precedes_walk routes r.0) ws) w r.2 in
      let kept_one = in_filter_back (precedes_walk routes r.0) ws v.0 v.1 in
      subst (IsWalk routes (n + 1)) v.2 (with_first n r.0 v.0 (all_in (IsRoute routes) place r.0 named r.1) (all_in (IsWalk routes n) ws v.0 are kept_one.0)))

  pub named_walks : (n : ℕ) (ws : List (List RouteNo)) → All (IsWalk routes n) ws → All (All (IsRoute routes)) ws
  named_walks n ws are = λ k d l. (are k d l).named
