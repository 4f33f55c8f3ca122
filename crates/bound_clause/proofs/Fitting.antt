-- What a certificate that names the design says of its legs.
use Rattle.std.proofs.Common.{◌≡◌, ℕ, zero, suc, ◌-◌, ◌≤◌, ◌<◌, get_or, arith, inl, inr, Bool, true, not, ◌&&◌, nat_le, List, [], ◌∷◌, length, Option, Some, None, option_map, refl, sym, subst, leb-true, true≢false}
use Rattle.std.specs.List.{list_all}
use Rattle.rail_base.specs.declared.station.Station.{Station}
use Rattle.rail_base.specs.declared.station.TrainNo.{TrainNo}
use Rattle.rail_base.specs.declared.route.Route.{Route}
use Rattle.rail_base.specs.declared.route.RouteNo.{RouteNo}
use Rattle.rail_base.specs.Admission.{is_from}
use Rattle.rail_base.specs.Stations.{IsTrain, within_of, order_of, no_within, no_order}
use Rattle.rail_base.specs.Admitted.{IsAdmitted}
use Rattle.rail_base.proofs.Lists.{in_entry}
use Rattle.bound_spec.specs.declared.Requirement.{Requirement}
use Rattle.bound_spec.specs.declared.Requirement.TheVariants as requirement
use Rattle.rail_base.specs.Routes.{IsRoute}
use Rattle.rail_base.specs.Members.{In, all_neighbors}
use Rattle.rail_base.proofs.Members.{and_left, and_right, list_all_at}
use Rattle.rail_spec.specs.Plans.{is_train, contend, all_commands}
use Rattle.clause_spec.specs.Variables.{pairs}
use Rattle.clause_spec.proofs.Places.{pair_from}
use Rattle.cone_spec.proofs.Saying.{in_all}
use Rattle.cone_form.proofs.Orders.{member_at}
use Rattle.cone_spec.specs.declared.Cone.{Cone}
use Rattle.cone_spec.specs.Validity as cone
use Rattle.bound_spec.specs.declared.Place.{Place}
use Rattle.bound_spec.specs.declared.Place.TheVariants as place
use Rattle.bound_spec.specs.declared.Leg.{Leg}
use Rattle.bound_spec.specs.declared.Bound.{Bound}
use Rattle.bound_spec.specs.declared.Origin.TheVariants as origin
use Rattle.bound_spec.specs.Certificates.{VisitOf, routes_of_place, kept_out, first_of_places, last_of_places, first_of_leg, last_of_leg, visit_from, cone_at, cone_of, train_to}
use Rattle.bound_spec.specs.Validity.{is_empty, are_increasing, most_places, places_of, last_leg, is_numbered, place_in_design, leg_in_design, contend_over_own, contends_with, contend_where_they_meet, are_few_choices, requirement_in_design, origin_in_design, names_design}
use Rattle.bound_clause.specs.Spoken.{ContendAll}

some_same : {X : Type 0} {a b : X} → Some a ≡ Some b → a ≡ b
some_same h = cc

module _ (d : Station) (routes : List Route) where
  -- ---- legs

  pub train_fits : (l : Leg) → leg_in_design d routes l ≡ true → IsTrain d l.train
  train_fits l h =
      let r = and_left (is_from 1 (length d.trains) l.train.0) (not (is_empty l.places)) (and_left _ (list_all (place_in_design d routes) l.places) h) in
      (leb-true _ _ (and_left (nat_le 1 l.train.0) _ r), leb-true _ _ (and_right (nat_le 1 l.train.0) _ r))

  pub places_fit : (l : Leg) → leg_in_design d routes l ≡ true → list_all (place_in_design d routes) l.places ≡ true
  places_fit l h = and_right _ (list_all (place_in_design d routes) l.places) h

  pub place_fits : (l : Leg) (p : Place) → leg_in_design d routes l ≡ true → In p l.places → place_in_design d routes p ≡ true
  place_fits l p h m = list_all_at (place_in_design d routes) l.places p (places_fit l h) m

  pub route_fits : (r : RouteNo) → is_numbered d routes r ≡ true → IsRoute routes r
  route_fits r h = (leb-true _ _ (and_left (nat_le 1 r.0) _ h), leb-true _ _ (and_right (nat_le 1 r.0) _ h))

  -- each route that it names is one of the design
  pub numbered_in : (p : Place) (r : RouteNo) → place_in_design d routes p ≡ true → In r (routes_of_place p) → is_numbered d routes r ≡ true
  numbered_in (place.Named q) r h (inl e) = subst (λ q. is_numbered d routes q ≡ true) e h
  numbered_in (place.Named q) r h (inr e) = absurd e
  numbered_in (place.Among rs without) r h m = list_all_at (is_numbered d routes) rs r (and_right (not (is_empty rs)) _ (and_left _ (are_increasing rs) (and_left _ (list_all (is_numbered d routes) without) (and_left _ (are_increasing without) h)))) m

  pub numbered_out : (p : Place) (r : RouteNo) → place_in_design d routes p ≡ true → In r (kept_out p) → is_numbered d routes r ≡ true
  numbered_out (place.Named q) r h m = absurd m
  numbered_out (place.Among rs without) r h m = list_all_at (is_numbered d routes) without r (and_right _ (list_all (is_numbered d routes) without) (and_left _ (are_increasing without) h)) m

  -- a train of the design with a route of it
  pub command_in : (t : TrainNo) (r : RouteNo) → IsTrain d t → is_numbered d routes r ≡ true → In (record { train = t; route = r }) (all_commands d routes)
  command_in t r h k = let q = route_fits r k in in_all d routes (record { train = t; route = r }) h.0 h.1 q.0 q.1

  first_there : (ps : List Place) (r : RouteNo) → In r (routes_of_place (first_of_places ps)) → In (first_of_places ps) ps
  first_there [] r m = absurd m
  first_there (p ∷ ps) r m = inl refl

  last_there : (ps : List Place) (r : RouteNo) → In r (routes_of_place (last_of_places ps)) → In (last_of_places ps) ps
  last_there [] r m = absurd m
  last_there (p ∷ []) r m = inl refl
  last_there (p ∷ q ∷ ps) r m = inr (last_there (q ∷ ps) r m)

  pub first_command : (l : Leg) (r : RouteNo) → leg_in_design d routes l ≡ true → In r (routes_of_place (first_of_leg l)) → In (record { train = l.train; route = r }) (all_commands d routes)
  first_command l r h m = command_in l.train r (train_fits l h) (numbered_in (first_of_leg l) r (place_fits l (first_of_leg l) h (first_there l.places r m)) m)

  pub last_command : (l : Leg) (r : RouteNo) → leg_in_design d routes l ≡ true → In r (routes_of_place (last_of_leg l)) → In (record { train = l.train; route = r }) (all_commands d routes)
  last_command l r h m = command_in l.train r (train_fits l h) (numbered_in (last_of_leg l) r (place_fits l (last_of_leg l) h (last_there l.places r m)) m)

  -- where two legs meet, their commands are contending pairs
  pub meeting_pairs : (l m : Leg) → leg_in_design d routes l ≡ true → leg_in_design d routes m ≡ true → contend_where_they_meet d routes l m ≡ true → ContendAll (pairs d routes) l m
  meeting_pairs l m h k both r i q j =
      let one = list_all_at (λ r. contends_with d routes (record { train = l.train; route = r }) m.train (first_of_leg m)) (routes_of_place (last_of_leg l)) r both i in
      let two = list_all_at (λ q. contend_over_own d routes (record { train = l.train; route = r }) (record { train = m.train; route = q })) (routes_of_place (first_of_leg m)) q one j in
      pair_from d routes (record { train = l.train; route = r }) (record { train = m.train; route = q }) (last_command l r h i) (first_command m q k j) (and_left (contend routes (record { train = l.train; route = r }) (record { train = m.train; route = q })) _ two)

  at_next : (test : Leg → Leg → Bool) (ls : List Leg) (j : ℕ) (a b : Leg) → all_neighbors test ls ≡ true → suc j < length ls → test (get_or ls j a) (get_or ls (suc j) b) ≡ true
  at_next test [] j a b h k = absurd (omega arith)
  at_next test (x ∷ []) j a b h k = absurd (omega arith)
  at_next test (x ∷ y ∷ ls) zero a b h k = and_left (test x y) _ h
  at_next test (x ∷ y ∷ ls) (suc j) a b h k = at_next test (y ∷ ls) j a b (and_right (test x y) _ h) (omega arith)

  -- ---- certificates

  -- the train of the visit from which ticks are counted is one of the design
  pub train_from_fits : IsAdmitted d → (q : Requirement) → requirement_in_design d routes q ≡ true → (t : TrainNo) → Some t ≡ option_map (λ (v : VisitOf). v.train) (visit_from d q) → IsTrain d t
  train_from_fits adm (requirement.Within w) h t e =
      let low = leb-true _ _ (and_left (nat_le 1 w) _ h) in
      let high = leb-true _ _ (and_right (nat_le 1 w) _ h) in
      subst (IsTrain d) (sym (some_same e)) (adm.within (within_of d w) (in_entry no_within d.withins w low high)).from.0
  train_from_fits adm (requirement.Order o) h t e =
      let low = leb-true _ _ (and_left (nat_le 1 o) _ h) in
      let high = leb-true _ _ (and_right (nat_le 1 o) _ h) in
      subst (IsTrain d) (sym (some_same e)) (adm.order (order_of d o) (in_entry no_order d.orders o low high)).after.0
  train_from_fits adm (requirement.Visit u k) h t e = cc
  train_from_fits adm (requirement.Grant c) h t e = cc

  module _ (b : Bound) (names : names_design d routes b ≡ true) where
    pub origin_fits : origin_in_design d routes b b.origin (visit_from d b.requirement) ≡ true
    origin_fits = and_right _ (origin_in_design d routes b b.origin (visit_from d b.requirement)) names

    without_train : (requirement_in_design d routes b.requirement && not (is_empty b.legs) && list_all (leg_in_design d routes) b.legs && nat_le (places_of b.legs) most_places && are_few_choices d routes b.legs && all_neighbors (contend_where_they_meet d routes) b.legs) ≡ true
    without_train = and_left _ (is_train (last_leg b.legs).train (train_to d b.requirement)) (and_left _ (origin_in_design d routes b b.origin (visit_from d b.requirement)) names)

    pub legs_meet : all_neighbors (contend_where_they_meet d routes) b.legs ≡ true
    legs_meet = and_right _ (all_neighbors (contend_where_they_meet d routes) b.legs) without_train

    up_to_legs : (requirement_in_design d routes b.requirement && not (is_empty b.legs) && list_all (leg_in_design d routes) b.legs) ≡ true
    up_to_legs = and_left _ (nat_le (places_of b.legs) most_places) (and_left _ (are_few_choices d routes b.legs) (and_left _ (all_neighbors (contend_where_they_meet d routes) b.legs) without_train))

    pub legs_fit : list_all (leg_in_design d routes) b.legs ≡ true
    legs_fit = and_right _ (list_all (leg_in_design d routes) b.legs) up_to_legs

    pub requirement_fits : requirement_in_design d routes b.requirement ≡ true
    requirement_fits = and_left (requirement_in_design d routes b.requirement) (not (is_empty b.legs)) (and_left _ (list_all (leg_in_design d routes) b.legs) up_to_legs)

    pub leg_fits : (l : Leg) → In l b.legs → leg_in_design d routes l ≡ true
    leg_fits l m = list_all_at (leg_in_design d routes) b.legs l legs_fit m

    -- the commands of two legs next to each other are contending pairs
    pub meets_at : (i : ℕ) (x y : Leg) → 1 ≤ i → i < length b.legs → x ≡ get_or b.legs (i - 1) x → y ≡ get_or b.legs i y → ContendAll (pairs d routes) x y
    meets_at i x y low high first second =
        let next : suc (i - 1) ≡ i = omega arith in
        let both = subst (λ j. contend_where_they_meet d routes (get_or b.legs (i - 1) x) (get_or b.legs j y) ≡ true) next (at_next (contend_where_they_meet d routes) b.legs (i - 1) x y legs_meet (omega arith)) in
        meeting_pairs x y
        (leg_fits x (subst (λ l. In l b.legs) (sym first) (member_at b.legs (i - 1) x (omega arith))))
        (leg_fits y (subst (λ l. In l b.legs) (sym second) (member_at b.legs i y high)))
        (subst (λ l. contend_where_they_meet d routes l y ≡ true) (sym first) (subst (λ m. contend_where_they_meet d routes (get_or b.legs (i - 1) x) m ≡ true) (sym second) both))

    -- a cone that it names speaks of the design
    pub cone_fits : (k : ℕ) (c : Cone) → b.origin ≡ origin.Cone k c → cone.in_design d routes c ≡ true
    cone_fits k c e = subst (λ o. cone.in_design d routes (cone_at b.requirement o) ≡ true) e (go (visit_from d b.requirement) (subst (λ o. origin_in_design d routes b o (visit_from d b.requirement) ≡ true) e origin_fits))
      where
        go : (v : Option VisitOf) → origin_in_design d routes b (origin.Cone k c) v ≡ true → cone.in_design d routes (cone_of b) ≡ true
        go (Some v) h = h
        go None h = absurd (true≢false (sym h))
