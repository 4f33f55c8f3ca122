-- Commands that name trains and routes of the design.
use Rattle.std.proofs.Common.{◌≡◌, ℕ, ◌<◌, inl, inr, true, ◌&&◌, nat_le, List, [], ◌∷◌, length, get_or, take, Option, None, Some, All, refl, sym, subst, ◌∙◌, arith, leb-true}
use Rattle.std.proofs.lemmas.List.{length-take, get_or-take}
use Rattle.std.specs.Option.{option_or}
use Rattle.rail_base.specs.declared.station.Station.{Station}
use Rattle.rail_base.specs.declared.station.TrainNo.{TrainNo}
use Rattle.rail_base.specs.declared.route.Route.{Route}
use Rattle.rail_base.specs.declared.route.RouteNo.{RouteNo}
use Rattle.rail_base.specs.declared.plan.Command.{Command}
use Rattle.rail_base.specs.Routes.{IsRoute}
use Rattle.rail_base.specs.Stations.{IsTrain}
use Rattle.rail_base.specs.Members.{In}
use Rattle.rail_base.specs.Numbering.{first_of_list}
use Rattle.rail_spec.specs.Plans.{commands, path, routes_given}
use Rattle.rail_spec.specs.Feasible.{is_of, names_only}
use Rattle.rail_plan.specs.Named.{HasRoute, HaveRoutes, HaveTrains}
use Rattle.rail_plan.specs.WellFormed.{last_of_list}
use Rattle.rail_base.proofs.Members.{and_left, and_right, list_all_at}
use Rattle.rail_base.proofs.Lists.{in_flat_map, in_flat_map_back}
use Rattle.rail_base.proofs.Contained.{in_at, contains_of_in}
use Rattle.rail_laws.proofs.Standing.{in_routes_given}

-- what holds of all members holds of one
pub all_in : {X : Type 0} (P : X → Type 0) (xs : List X) (x : X) → All P xs → In x xs → P x
all_in P xs x h m = let c = contains_of_in xs x m in subst P c.2 (h c.0 x c.1)

last_in : {X : Type 0} (xs : List X) (x : X) → last_of_list xs ≡ Some x → In x xs
last_in [] x e = cc
last_in {X} (y ∷ ys) x e = go (last_of_list ys) refl e (last_in ys x)
  where
    go : (o : Option X) → last_of_list ys ≡ o → option_or o (Some y) ≡ Some x → (last_of_list ys ≡ Some x → In x ys) → In x (y ∷ ys)
    go (Some z) f k later = inr (later (f ∙ k))
    go None f k later = let same : y ≡ x = cc in inl same

first_in : {X : Type 0} (xs : List X) (x : X) → first_of_list xs ≡ Some x → In x xs
first_in [] x e = cc
first_in (y ∷ ys) x e = let same : y ≡ x = cc in inl same

module _ (routes : List Route) where
  pub given_route : (step : List Command) (t : TrainNo) (r : RouteNo) → HaveRoutes routes step → In r (routes_given t step) → IsRoute routes r
  given_route step t r h m = all_in (HasRoute routes) step (record { train = t; route = r }) h (in_routes_given t step r m)

  pub first_is_route : (step : List Command) (t : TrainNo) (r : RouteNo) → HaveRoutes routes step → Some r ≡ first_of_list (routes_given t step) → IsRoute routes r
  first_is_route step t r h e = given_route step t r h (first_in (routes_given t step) r (sym e))

  pub last_is_route : (steps : List (List Command)) (t : TrainNo) (r : RouteNo) → All (HaveRoutes routes) steps → Some r ≡ last_of_list (path steps t) → IsRoute routes r
  last_is_route steps t r h e = go (in_flat_map_back (routes_given t) steps r (last_in (path steps t) r (sym e)))
    where
      go : (step : List Command) × In step steps × In r (routes_given t step) → IsRoute routes r
      go (step, m, n) = given_route step t r (all_in (HaveRoutes routes) steps step h m) n

module _ (d : Station) (routes : List Route) where
  its_route : (c : Command) → is_of d routes c ≡ true → IsRoute routes c.route
  its_route c h =
      let train = nat_le 1 c.train.0 && nat_le c.train.0 (length d.trains) in
      (leb-true 1 c.route.0 (and_right train (nat_le 1 c.route.0) (and_left (train && nat_le 1 c.route.0) (nat_le c.route.0 (length routes)) h)), leb-true c.route.0 (length routes) (and_right (train && nat_le 1 c.route.0) (nat_le c.route.0 (length routes)) h))

  pub its_train : (c : Command) → is_of d routes c ≡ true → IsTrain d c.train
  its_train c h =
      let train = nat_le 1 c.train.0 && nat_le c.train.0 (length d.trains) in
      let both = and_left train (nat_le 1 c.route.0) (and_left (train && nat_le 1 c.route.0) (nat_le c.route.0 (length routes)) h) in
      (leb-true 1 c.train.0 (and_left (nat_le 1 c.train.0) (nat_le c.train.0 (length d.trains)) both), leb-true c.train.0 (length d.trains) (and_right (nat_le 1 c.train.0) (nat_le c.train.0 (length d.trains)) both))

  -- all routes are there in a plan over the design
  pub all_have_routes : (plan : List (List Command)) → names_only d routes plan ≡ true → All (HaveRoutes routes) plan
  all_have_routes plan h = λ i other l j c k. its_route (get_or (get_or plan i other) j c) (list_all_at (is_of d routes) (commands plan) (get_or (get_or plan i other) j c) h (in_flat_map (λ s. s) plan (get_or plan i other) (get_or (get_or plan i other) j c) (in_at plan i other l) (in_at (get_or plan i other) j c k)))

  pub all_have_trains : (plan : List (List Command)) → names_only d routes plan ≡ true → All (HaveTrains d) plan
  all_have_trains plan h = λ i other l j c k. its_train (get_or (get_or plan i other) j c) (list_all_at (is_of d routes) (commands plan) (get_or (get_or plan i other) j c) h (in_flat_map (λ s. s) plan (get_or plan i other) (get_or (get_or plan i other) j c) (in_at plan i other l) (in_at (get_or plan i other) j c k)))

-- what holds of all holds of those in front
pub all_prefix : {X : Type 0} (P : X → Type 0) (xs : List X) (n : ℕ) → All P xs → All P (take n xs)
all_prefix P xs n h = λ k e l. let size = length-take n xs in subst P (sym (get_or-take n xs k e (omega arith))) (h k e (omega arith))

pub all_here : {X : Type 0} (P : X → Type 0) (xs : List X) (i : ℕ) (x : X) → i < length xs → x ≡ get_or xs i x → All P xs → P x
all_here P xs i x l e h = subst P (sym e) (h i x l)
