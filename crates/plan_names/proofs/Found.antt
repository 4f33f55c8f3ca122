-- The route that is shown by some names is found by them.
use Rattle.std.proofs.Common.{◌≡◌, inl, inr, cond, not, lt-ltb, ℕ, zero, suc, ◌+◌, ◌≤◌, Bool, true, false, List, [], ◌∷◌, length, get_or, Option, Some, None, option_map, position, refl, sym, ap, ap₂, map, nat_lt, subst, ◌∙◌, arith}
use Rattle.std.specs.List.{position_or_len}
use Rattle.std.proofs.lemmas.List.{length-map}
use Rattle.std.proofs.lemmas.List.Quantifiers.{position-Some}
use Rattle.rail_base.specs.declared.station.Station.{Station}
use Rattle.rail_base.specs.declared.route.Route.{Route}
use Rattle.rail_base.specs.declared.route.RouteNo.{RouteNo}
use Rattle.rail_base.specs.Admission.{is_admitted}
use Rattle.rail_base.specs.Members.{In, Differ}
use Rattle.rail_base.specs.Numbering.{entry}
use Rattle.rail_base.specs.Routes.{IsRoute, no_route, route_at}
use Rattle.rail_spec.specs.Track.{routes_of}
use Rattle.rail_base.proofs.Admitting.{admitted}
use Rattle.rail_base.proofs.Members.{false_unless}
use Rattle.rail_base.proofs.Lists.{in_entry}
use Rattle.rail_laws.proofs.RouteLaws.{routes_differ}
use Rattle.plan_names.specs.Shown.{same_names, shown, number_named}
use Rattle.plan_names.proofs.EdgeNames.{same_refl, same_true}
use Rattle.plan_names.proofs.Apart.{shown_apart}

pub first_place : {X : Type 0} (test : X → Bool) (other : X) (xs : List X) (n : ℕ) → Differ xs → 1 ≤ n → n ≤ length xs
    → test (entry other xs n) ≡ true → ((x : X) → In x xs → test x ≡ true → x ≡ entry other xs n) → position_or_len test xs + 1 ≡ n
first_place test other xs zero differ low high passes only = absurd (omega arith)
first_place test other [] (suc n) differ low high passes only = absurd (omega arith)
first_place test other (x ∷ xs) (suc zero) differ low high passes only = ap (λ b. cond (not b) (1 + position_or_len test xs) 0 + 1) passes
first_place test other (x ∷ xs) (suc (suc n)) differ low high passes only =
    let y = entry other xs (suc n) in
    let fails : test x ≡ false = false_unless (test x) (λ e. differ.0 y (in_entry other xs (suc n) (omega arith) (omega arith)) (only x (inl refl) e)) in
    let later = first_place test other xs (suc n) differ.1 (omega arith) (omega arith) passes (λ z m e. only z (inr m) e) in
    let next : 1 + position_or_len test xs + 1 ≡ suc (suc n) = omega arith in
    ap (λ b. cond (not b) (1 + position_or_len test xs) 0 + 1) fails ∙ next

entry_is : {X : Type 0} (other : X) (xs : List X) (i : ℕ) → entry other xs (i + 1) ≡ get_or xs i other
entry_is other xs i = subst (λ n. entry other xs n ≡ get_or xs i other) (let e : suc i ≡ i + 1 = omega arith in e) refl

-- places in a list of what f gives
place_map : {X Y : Type 0} (test : Y → Bool) (f : X → Y) (xs : List X) → position_or_len test (map f xs) ≡ position_or_len (λ x. test (f x)) xs
place_map test f [] = refl
place_map test f (x ∷ xs) = ap (λ n. cond (not (test (f x))) (1 + n) 0) (place_map test f xs)

pub position_map : {X Y : Type 0} (test : Y → Bool) (f : X → Y) (xs : List X) → position test (map f xs) ≡ position (λ x. test (f x)) xs
position_map test f xs = ap₂ (λ l m. cond (nat_lt l m) (Some l) None) (place_map test f xs) (length-map xs f)

module _ (d : Station) (adm : is_admitted d ≡ true) where
  abbrev shown_by : List (List ℕ) → Route → Bool
  shown_by names r = same_names (shown d (routes_of d) r) names

  abbrev numbered : ℕ → RouteNo
  numbered i = record { 0 = i + 1 }

  by_map : (names : List (List ℕ)) → number_named d (routes_of d) names ≡ option_map numbered (position (shown_by names) (routes_of d))
  by_map names = ap (option_map numbered) (position_map (λ s. same_names s names) (shown d (routes_of d)) (routes_of d))

  pub stood_for : (names : List (List ℕ)) (n : RouteNo) → IsRoute (routes_of d) n × (shown d (routes_of d) (route_at (routes_of d) n) ≡ names) → number_named d (routes_of d) names ≡ Some n
  stood_for names n (there, is) =
      let l = position_or_len (shown_by names) (routes_of d) in
      let passes : shown_by names (route_at (routes_of d) n) ≡ true = subst (λ x. same_names x names ≡ true) (sym is) (same_refl names) in
      let at : l + 1 ≡ n.0 = first_place (shown_by names) no_route (routes_of d) n.0 (routes_differ d (admitted d adm)) there.0 there.1 passes
      (λ r m e. shown_apart d adm r (route_at (routes_of d) n) m (in_entry no_route (routes_of d) n.0 there.0 there.1) (same_true (shown d (routes_of d) r) names e ∙ sym is)) in
      let high = there.1 in
      by_map names ∙ ap (λ b. option_map numbered (cond b (Some l) None)) (lt-ltb l (length (routes_of d)) (omega arith))
      ∙ ap (λ (k : ℕ). Some (let r : RouteNo = record { 0 = k } in r)) at

  pub stand_for : (names : List (List ℕ)) (n : RouteNo) → number_named d (routes_of d) names ≡ Some n → IsRoute (routes_of d) n × (shown d (routes_of d) (route_at (routes_of d) n) ≡ names)
  stand_for names n h = go (position (shown_by names) (routes_of d)) refl (sym (by_map names) ∙ h)
    where
      is_shown : (i : ℕ) → position (shown_by names) (routes_of d) ≡ Some i → IsRoute (routes_of d) (numbered i) × (shown d (routes_of d) (route_at (routes_of d) (numbered i)) ≡ names)
      is_shown i at =
          let found = position-Some (shown_by names) (routes_of d) i no_route at in
          let low = found.0 in
          ((omega arith, omega arith), ap (shown d (routes_of d)) (entry_is no_route (routes_of d) i) ∙ same_true (shown d (routes_of d) (get_or (routes_of d) i no_route)) names found.1)

      go : (o : Option ℕ) → position (shown_by names) (routes_of d) ≡ o → option_map numbered o ≡ Some n → IsRoute (routes_of d) n × (shown d (routes_of d) (route_at (routes_of d) n) ≡ names)
      go None at e = absurd cc
      go (Some i) at e =
          let same : numbered i ≡ n = cc in
          subst (λ k. IsRoute (routes_of d) k × (shown d (routes_of d) (route_at (routes_of d) k) ≡ names)) same (is_shown i at)
