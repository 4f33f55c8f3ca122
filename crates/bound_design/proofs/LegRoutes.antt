-- The routes that legs of the design name are there.
use Rattle.std.proofs.Common.{◌≡◌, inl, inr, Bool, true, not, ◌&&◌, List, [], ◌∷◌, refl, length, All, ap₂}
use Rattle.std.specs.List.{list_all}
use Rattle.rail_base.specs.declared.station.Station.{Station}
use Rattle.rail_base.specs.declared.route.Route.{Route}
use Rattle.rail_base.specs.declared.route.RouteNo.{RouteNo}
use Rattle.rail_base.specs.Admission.{is_from}
use Rattle.rail_base.specs.Routes.{IsRoute}
use Rattle.rail_base.proofs.Members.{In, and_left, and_right, and_both}
use Rattle.cone_form.proofs.Ranges.{all_routes}
use Rattle.bound_spec.specs.declared.Place.{Place}
use Rattle.bound_spec.specs.declared.Place.TheVariants as place
use Rattle.bound_spec.specs.declared.Leg.{Leg}
use Rattle.bound_spec.specs.Certificates.{routes_of_place, first_of_leg, last_of_leg}
use Rattle.bound_spec.specs.Validity.{is_empty, are_increasing, is_numbered, place_in_design, leg_in_design}
use Rattle.bound_design.proofs.Ending.{first_passes, last_passes}

-- two tests that are the same of all members
pub all_same : {X : Type 0} (f g : X → Bool) (xs : List X) → ((x : X) → In x xs → f x ≡ g x) → list_all f xs ≡ list_all g xs
all_same f g [] h = refl
all_same f g (x ∷ xs) h = ap₂ (λ a b. a && b) (h x (inl refl)) (all_same f g xs (λ y m. h y (inr m)))

module _ (d : Station) (routes : List Route) where
  -- the routes of a place of the design are there
  pub place_numbered : (p : Place) → place_in_design d routes p ≡ true → list_all (is_numbered d routes) (routes_of_place p) ≡ true
  place_numbered (place.Named r) h = and_both (is_numbered d routes r) true h refl
  place_numbered (place.Among rs without) h =
      let named = list_all (is_numbered d routes) rs in
      let kept = list_all (is_numbered d routes) without in
      and_right (not (is_empty rs)) named (and_left (not (is_empty rs) && named) (are_increasing rs) (and_left (not (is_empty rs) && named && are_increasing rs) kept (and_left (not (is_empty rs) && named && are_increasing rs && kept) (are_increasing without) h)))

  pub record IsLeg (l : Leg) : Type 0 where
    pub some : not (is_empty l.places) ≡ true
    pub places : list_all (place_in_design d routes) l.places ≡ true

  pub is_leg : (l : Leg) → leg_in_design d routes l ≡ true → IsLeg l
  is_leg l h =
      let t = is_from 1 (length d.trains) l.train.0 in
      let prefix = and_left (t && not (is_empty l.places)) (list_all (place_in_design d routes) l.places) h in
      record {
        some = and_right t (not (is_empty l.places)) prefix;
        places = and_right (t && not (is_empty l.places)) (list_all (place_in_design d routes) l.places) h;
      }

  -- and so are those that are kept out
  pub kept_there : (rs without : List RouteNo) → place_in_design d routes (place.Among rs without) ≡ true → All (IsRoute routes) without
  kept_there rs without h =
      let named = list_all (is_numbered d routes) rs in
      let kept = list_all (is_numbered d routes) without in
      all_routes routes without (and_right (not (is_empty rs) && named && are_increasing rs) kept (and_left (not (is_empty rs) && named && are_increasing rs && kept) (are_increasing without) h))

  pub routes_there : (p : Place) → place_in_design d routes p ≡ true → All (IsRoute routes) (routes_of_place p)
  routes_there p h = all_routes routes (routes_of_place p) (place_numbered p h)

  -- those of a leg's first and of its last place are there
  pub first_there : (l : Leg) → leg_in_design d routes l ≡ true → All (IsRoute routes) (routes_of_place (first_of_leg l))
  first_there l h = let leg = is_leg l h in routes_there (first_of_leg l) (first_passes (place_in_design d routes) l.places leg.some leg.places)

  pub last_there : (l : Leg) → leg_in_design d routes l ≡ true → All (IsRoute routes) (routes_of_place (last_of_leg l))
  last_there l h = let leg = is_leg l h in routes_there (last_of_leg l) (last_passes (place_in_design d routes) l.places leg.some leg.places)
