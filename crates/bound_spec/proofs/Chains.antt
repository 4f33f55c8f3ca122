-- In a feasible plan of which the clause of a certificate is false the legs are ridden, each after the one before.
use Rattle.std.proofs.Common.{◌≡◌, ℕ, ◌+◌, ◌≤◌, ◌⊎◌, inl, inr, Bool, true, false, not, ◌&&◌, ◌||◌, nat_le, nat_lt, List, [], ◌∷◌, ◌++◌, map, length, sum_by, Option, None, Some, refl, sym, ap, ap₂, subst, ◌∙◌, arith, leb-true, le-leb, eq-eqb, true≢false}
use Rattle.std.specs.Prelude.{is_some}
use Rattle.std.specs.List.{list_any, list_all}
use Rattle.std.proofs.lemmas.List.{append_assoc, length-append, map-append}
use Rattle.std.proofs.lemmas.List.Sums.{sum_by-append, sum_by-cons}
use Rattle.rail_base.specs.declared.station.Station.{Station}
use Rattle.rail_base.specs.declared.station.SectionNo.{SectionNo}
use Rattle.rail_base.specs.declared.station.TrainNo.{TrainNo}
use Rattle.rail_base.specs.declared.route.Route.{Route}
use Rattle.rail_base.specs.declared.route.RouteNo.{RouteNo}
use Rattle.rail_base.specs.declared.plan.Command.{Command}
use Rattle.rail_base.specs.declared.state.PathNode.{PathNode}
use Rattle.rail_base.specs.Admitted.{IsAdmitted}
use Rattle.rail_base.specs.Admission.{is_visit}
use Rattle.rail_base.specs.Members.{In, all_neighbors}
use Rattle.rail_base.specs.Stations.{train_of}
use Rattle.rail_spec.specs.Track.{routes_of}
use Rattle.rail_spec.specs.Plans.{route_at, is_train, is_route, path, commands, has_command, has_section, own_sections, length_mm, own_shared, share, contend, precedes, preceding, step_of, may_stand, can_clear, route_numbers, all_commands}
use Rattle.rail_spec.specs.Feasible.{IsWellFormed, IsFeasible, is_of}
use Rattle.rail_spec.specs.Dispatches.{state_of, of_plan, state_at}
use Rattle.rail_spec.specs.Requirements.{visit_numbers}
use Rattle.rail_base.proofs.Members.{and_left, and_right, and_both, or_left, is_false, list_all_at, list_any_gives, list_any_from, in_filter}
use Rattle.rail_base.proofs.Lists.{in_append, in_count_back}
use Rattle.rail_laws.proofs.Given.{same_route, command_in_path}
use Rattle.rail_laws.proofs.Standing.{in_path}
use Rattle.cone_spec.specs.Cones.{has_route}
use Rattle.cone_spec.specs.Cones as cone
use Rattle.cone_spec.specs.Clauses.{Before, holds_of}
use Rattle.cone_spec.proofs.Naming.{in_has_route}
use Rattle.cone_spec.proofs.Saying.{has_in, in_has, in_all, is_of_in_all}
use Rattle.bound_spec.specs.declared.Place.{Place}
use Rattle.bound_spec.specs.declared.Place.TheVariants as place
use Rattle.bound_spec.specs.declared.Leg.{Leg}
use Rattle.bound_spec.specs.declared.Bound.{Bound}
use Rattle.bound_spec.specs.Rides.{Rides, first_of, first_command, last_command}
use Rattle.bound_spec.specs.Certificates.{routes_of_place, named_at, kept_out, is_named_place, last_of_places, first_of_leg, last_of_leg, ride_of, visit_offset, cone_of}
use Rattle.bound_spec.specs.Clauses.{any_next, stands_in, is_at, joins, may_join}
use Rattle.bound_spec.specs.Validity.{place_in_design, is_numbered, is_empty, contend_over_own, contend_where_they_meet, covers, can_visit, comes_before, is_used, is_visited, may_be_earlier, ends_at_signal}
use Rattle.bound_spec.proofs.Premises.{Premises}
use Rattle.bound_spec.proofs.Backwards.{Keeps, Ridden, ridden, covered_at, in_middle, first_splits, numbered, inner_route, ends_inside}
use Rattle.bound_spec.proofs.Visits.{path_length, MadeOn, made_on, visit_in}
use Rattle.bound_spec.proofs.Meeting.{met, Makes, PassedAt, passed_at}

-- ---- lists

pub in_split : (xs : List RouteNo) (x : RouteNo) → In x xs → (ys : List RouteNo) × (zs : List RouteNo) × (xs ≡ ys ++ x ∷ zs)
in_split [] x m = absurd m
in_split (y ∷ xs) x (inl e) = ([], xs, ap (λ z. z ∷ xs) e)
in_split (y ∷ xs) x (inr m) = let r = in_split xs x m in (y ∷ r.0, r.1, ap (λ zs. y ∷ zs) r.2)

last_in : (ps : List Place) → is_empty ps ≡ false → In (last_of_places ps) ps
last_in [] h = absurd (true≢false h)
last_in (p ∷ []) h = inl refl
last_in (p ∷ q ∷ ps) h = inr (last_in (q ∷ ps) refl)

some_shared : (r q : Route) → list_any (has_section q) (own_sections r) ≡ true → (z : SectionNo) × In z (own_shared r q)
some_shared r q h = let g = list_any_gives (has_section q) (own_sections r) h in (g.0, in_filter (has_section q) (own_sections r) g.0 g.1 g.2)

module _ (d : Station) (adm : IsAdmitted d) (n : ℕ) (b : Bound) (plan : List (List Command)) (feasible : IsFeasible d n plan) (p : Premises d (routes_of d) b plan) where
  abbrev f : RouteNo → Route
  f r = route_at (routes_of d) r

  abbrev well : IsWellFormed d (routes_of d) n plan
  well = feasible.runnable.well_formed

  -- ---- commands

  -- a command of the plan is one of the design
  known : (c : Command) → In c (commands plan) → In c (all_commands d (routes_of d))
  known c m = is_of_in_all d (routes_of d) c (list_all_at (is_of d (routes_of d)) (commands plan) c well.named m)

  given : (t : TrainNo) (r : RouteNo) → In r (path plan t) → In (record { train = t; route = r }) (commands plan)
  given t r m = in_path t plan r m

  -- of two commands of different trains that share a section one is given earlier
  pub apart : (e c : Command) → In e (commands plan) → In c (commands plan) → contend (routes_of d) e c ≡ true → holds_of plan (Before c e) ≡ false → nat_lt (step_of plan e) (step_of plan c) ≡ true
  apart e c me mc meet behind = go (nat_lt (step_of plan c) (step_of plan e)) refl (list_all_at (may_stand d (routes_of d) plan e) (commands plan) c (list_all_at (λ e. list_all (may_stand d (routes_of d) plan e) (commands plan)) (commands plan) e feasible.runnable.executable me) mc)
    where
      other : is_train e.train c.train ≡ false
      other = is_false (is_train e.train c.train) (and_left (not (is_train e.train c.train)) _ meet)

      sharing : share (f e.route) (f c.route) ≡ true
      sharing = and_right (not (is_train e.train c.train)) _ meet

      go : (x : Bool) → nat_lt (step_of plan c) (step_of plan e) ≡ x
          → (is_train e.train c.train || not (share (f e.route) (f c.route)) || x || (nat_lt (step_of plan e) (step_of plan c) && list_all (can_clear d (routes_of d) plan e c) (own_shared (f e.route) (f c.route)))) ≡ true
          → nat_lt (step_of plan e) (step_of plan c) ≡ true
      go true x h = absurd (true≢false (sym (and_both _ _ (and_both _ _ (in_has plan c mc) (in_has plan e me)) x) ∙ behind))
      go false x h =
          let k : (false || not true || false || (nat_lt (step_of plan e) (step_of plan c) && list_all (can_clear d (routes_of d) plan e c) (own_shared (f e.route) (f c.route)))) ≡ true =
          sym (ap₂ (λ a s. a || not s || false || (nat_lt (step_of plan e) (step_of plan c) && list_all (can_clear d (routes_of d) plan e c) (own_shared (f e.route) (f c.route)))) other sharing) ∙ h in
          and_left (nat_lt (step_of plan e) (step_of plan c)) _ k

  -- ---- legs of the certificate

  pub record Proper (l : Leg) : Type 0 where
    pub member : In l b.legs
    pub train : (1 ≤ l.train.0) × (l.train.0 ≤ length d.trains)
    pub some : is_empty l.places ≡ false
    pub places : list_all (place_in_design d (routes_of d)) l.places ≡ true
    pub next : all_neighbors (comes_before d (routes_of d)) l.places ≡ true

  -- the train uses what the leg's places name, and nothing that they keep out
  keeps : (l : Leg) → Proper l → (q : Place) → In q l.places → Keeps d adm n plan well l.train q
  keeps l proper q m = record { uses = λ r i. uses r i (named_numbered q (list_all_at (place_in_design d (routes_of d)) l.places q proper.places m) r i); avoids = avoids }
    where
      named_numbered : (q : Place) → place_in_design d (routes_of d) q ≡ true → (r : RouteNo) → In r (named_at q) → is_numbered d (routes_of d) r ≡ true
      named_numbered (place.Named s) h r (inl e) = subst (λ s. is_numbered d (routes_of d) s ≡ true) e h
      named_numbered (place.Named s) h r (inr i) = absurd i
      named_numbered (place.Among rs without) h r i = absurd i

      stands : (routes_at : Place → List RouteNo) (r : RouteNo) → In r (routes_at q) → list_any (stands_in routes_at (record { train = l.train; route = r })) b.legs ≡ true
      stands routes_at r i = list_any_from (stands_in routes_at (record { train = l.train; route = r })) b.legs l proper.member
          (and_both _ _ (eq-eqb l.train.0 l.train.0 refl) (list_any_from (λ p. has_route (routes_at p) r) l.places q m (in_has_route (routes_at q) r i)))

      uses : (r : RouteNo) → In r (named_at q) → is_numbered d (routes_of d) r ≡ true → In r (path plan l.train)
      uses r i number =
          let low = leb-true 1 r.0 (and_left (nat_le 1 r.0) _ number) in
          let high = leb-true r.0 (length (routes_of d)) (and_right (nat_le 1 r.0) _ number) in
          let c : Command = record { train = l.train; route = r } in
          command_in_path plan c (has_in plan c (p.used c (in_all d (routes_of d) c proper.train.0 proper.train.1 low high) (or_left _ (cone.is_named (cone_of b) c) (stands named_at r i))))

      avoids : (r : RouteNo) → In r (kept_out q) → In r (path plan l.train) → ⊥
      avoids r i here =
          let c : Command = record { train = l.train; route = r } in
          let there = given l.train r here in
          true≢false (sym (in_has plan c there) ∙ p.unused c (known c there) (or_left _ _ (stands kept_out r i)))

  -- ---- where the train is on the last place of a leg

  pub record Stands (l : Leg) : Type 0 where
    pub before : List RouteNo
    pub route : RouteNo
    pub more : List RouteNo
    pub whole : path plan l.train ≡ before ++ route ∷ more
    pub on : In route (routes_of_place (last_of_leg l))

  -- a visit that the plan makes is made on a route of a place that covers it
  visit_on : (l : Leg) → Proper l → (k : ℕ) (s : PathNode) → covers d (routes_of d) (can_visit d (routes_of d) l.train k) (last_of_leg l) ≡ true → (w : MadeOn d adm n plan well l.train k s) → In w.route (routes_of_place (last_of_leg l))
  visit_on l proper k s all w = go (covered_at d adm n plan well (can_visit d (routes_of d) l.train k) (last_of_leg l) l.train w.route all here w.may)
    where
      here : In w.route (path plan l.train)
      here = subst (In w.route) (sym w.whole) (in_middle w.before w.route w.more)

      go : In w.route (routes_of_place (last_of_leg l)) ⊎ In w.route (kept_out (last_of_leg l)) → In w.route (routes_of_place (last_of_leg l))
      go (inl i) = i
      go (inr o) = absurd ((keeps l proper (last_of_leg l) (last_in l.places proper.some)).avoids w.route o here)

  some_gives : {X : Type 0} (o : Option X) → is_some o ≡ true → (a : X) × (o ≡ Some a)
  some_gives None h = cc
  some_gives (Some a) h = (a, refl)

  pub stands_on : (l : Leg) → Proper l → is_used d (routes_of d) l.train (last_of_leg l) ≡ true → Stands l
  stands_on l proper used = go (last_of_leg l) refl used
    where
      go : (q : Place) → last_of_leg l ≡ q → is_used d (routes_of d) l.train q ≡ true → Stands l
      go (place.Named r) e h =
          let k = keeps l proper (last_of_leg l) (last_in l.places proper.some) in
          let here : In r (path plan l.train) = k.uses r (subst (λ q. In r (named_at q)) (sym e) (inl refl)) in
          let s = in_split (path plan l.train) r here in
          record { before = s.0; route = r; more = s.1; whole = s.2; on = subst (λ q. In r (routes_of_place q)) (sym e) (inl refl) }
      go (place.Among rs without) e h =
          let g = list_any_gives (λ k. covers d (routes_of d) (can_visit d (routes_of d) l.train k) (place.Among rs without)) (visit_numbers d l.train) h in
          let k = g.0 in
          let number = in_count_back 1 (length (train_of d l.train).visits) k g.1 in
          let there : is_visit d l.train k ≡ true = and_both _ _ (and_both _ _ (le-leb 1 l.train.0 proper.train.0) (le-leb l.train.0 (length d.trains) proper.train.1)) (and_both _ _ (le-leb 1 k number.0) (le-leb k (length (train_of d l.train).visits) (let u = number.1 in omega arith))) in
          let tick = some_gives _ ((met d adm n plan feasible).visited l.train k there) in
          let at = passed_at d adm n plan feasible (record { train = l.train; number = k }) tick.0 tick.1 in
          let w = made_on d adm n plan well l.train k at.path_node at.there in
          record { before = w.before; route = w.route; more = w.more; whole = w.whole; on = visit_on l proper k at.path_node (subst (λ q. covers d (routes_of d) (can_visit d (routes_of d) l.train k) q ≡ true) (sym e) g.2) w }

  -- by the tick of a visit the train is so far on the last place of a leg on which it is made
  pub record Arrived (l : Leg) (number k : ℕ) : Type 0 where
    pub stands : Stands l
    pub granted : length stands.before + 1 ≤ (state_of (state_at d (routes_of d) (of_plan (routes_of d) plan) k) l.train).granted
    pub head : path_length d adm stands.before + visit_offset d l.train number (f stands.route) ≤ (state_of (state_at d (routes_of d) (of_plan (routes_of d) plan) k) l.train).x

  pub arrived : (l : Leg) → Proper l → (number k : ℕ) → is_visited d (routes_of d) l.train number (last_of_leg l) ≡ true → Makes d adm n plan feasible (record { train = l.train; number = number }) k → Arrived l number k
  arrived l proper number k visited makes = go (last_of_leg l) refl visited
    where
      at : PassedAt d adm n plan feasible (record { train = l.train; number = number }) k
      at = passed_at d adm n plan feasible (record { train = l.train; number = number }) k makes

      w : MadeOn d adm n plan well l.train number at.path_node
      w = made_on d adm n plan well l.train number at.path_node at.there

      granted : at.path_node.event.granted ≤ (state_of (state_at d (routes_of d) (of_plan (routes_of d) plan) k) l.train).granted
      granted = leb-true _ _ (and_left (nat_le at.path_node.event.granted (state_of (state_at d (routes_of d) (of_plan (routes_of d) plan) k) l.train).granted) _ at.passed)

      head : at.path_node.event.place ≤ (state_of (state_at d (routes_of d) (of_plan (routes_of d) plan) k) l.train).x
      head = leb-true _ _ (and_right (nat_le at.path_node.event.granted (state_of (state_at d (routes_of d) (of_plan (routes_of d) plan) k) l.train).granted) (nat_le at.path_node.event.place (state_of (state_at d (routes_of d) (of_plan (routes_of d) plan) k) l.train).x) at.passed)

      on_it : In w.route (routes_of_place (last_of_leg l)) → Arrived l number k
      on_it m =
          let g = granted in let h = head in let c = w.command in let o = w.low in
          record { stands = record { before = w.before; route = w.route; more = w.more; whole = w.whole; on = m }; granted = omega arith; head = omega arith }

      -- on a route before the one of the visit
      before_it : (r : RouteNo) → In r (routes_of_place (last_of_leg l)) → In r w.before → Arrived l number k
      before_it r on m =
          let s = in_split w.before r m in
          let whole : path plan l.train ≡ s.0 ++ r ∷ (s.1 ++ w.route ∷ w.more) = w.whole ∙ ap (λ zs. zs ++ w.route ∷ w.more) s.2 ∙ append_assoc s.0 (r ∷ s.1) (w.route ∷ w.more) in
          let count = ap length s.2 in
          let count2 = length-append s.0 (r ∷ s.1) in
          let sum = ap (path_length d adm) s.2 ∙ ap (sum_by length_mm) (map-append f s.0 (r ∷ s.1)) ∙ sum_by-append length_mm (map f s.0) (f r ∷ map f s.1) in
          let sum2 = sum_by-cons length_mm (f r) (map f s.1) in
          let inside = visit_in d adm l.train number r in
          let g = granted in let h = head in let c = w.command in let o = w.low in
          record { stands = record { before = s.0; route = r; more = s.1 ++ w.route ∷ w.more; whole = whole; on = on }; granted = omega arith; head = omega arith }

      -- on no route after it
      not_after : (r : RouteNo) → In r w.more → may_be_earlier d (routes_of d) w.route r ≡ false → ⊥
      not_after r m not_earlier =
          let s = in_split w.more r m in
          let whole : path plan l.train ≡ (w.before ++ w.route ∷ s.0) ++ r ∷ s.1 = w.whole ∙ ap (λ zs. w.before ++ w.route ∷ zs) s.2 ∙ sym (append_assoc w.before (w.route ∷ s.0) (r ∷ s.1)) in
          let count = length-append w.before (w.route ∷ s.0) in
          let inner = inner_route d adm n plan well l.train (w.before ++ w.route ∷ s.0) r s.1 whole (omega arith) in
          true≢false (sym (and_both _ _ (signal s.0 s.1 r s.2) (ap not inner)) ∙ not_earlier)
        where
          signal : (ys zs : List RouteNo) (r : RouteNo) → w.more ≡ ys ++ r ∷ zs → ends_at_signal (f w.route).finish ≡ true
          signal [] zs r e = ends_inside d adm n plan well l.train w.before w.route r zs (w.whole ∙ ap (λ ms. w.before ++ w.route ∷ ms) e)
          signal (y ∷ ys) zs r e = ends_inside d adm n plan well l.train w.before w.route y (ys ++ r ∷ zs) (w.whole ∙ ap (λ ms. w.before ++ w.route ∷ ms) e)

      go : (q : Place) → last_of_leg l ≡ q → is_visited d (routes_of d) l.train number q ≡ true → Arrived l number k
      go (place.Among rs without) e h = on_it (visit_on l proper number at.path_node (subst (λ q. covers d (routes_of d) (can_visit d (routes_of d) l.train number) q ≡ true) (sym e) h) w)
      go (place.Named r) e h = named (is_route w.route r) refl
        where
          on : In r (routes_of_place (last_of_leg l))
          on = subst (λ q. In r (routes_of_place q)) (sym e) (inl refl)

          here : In r (path plan l.train)
          here = (keeps l proper (last_of_leg l) (last_in l.places proper.some)).uses r (subst (λ q. In r (named_at q)) (sym e) (inl refl))

          there : In w.route (path plan l.train)
          there = subst (In w.route) (sym w.whole) (in_middle w.before w.route w.more)

          named : (x : Bool) → is_route w.route r ≡ x → Arrived l number k
          named true x = on_it (subst (λ s. In s (routes_of_place (last_of_leg l))) (sym (same_route w.route r x)) on)
          named false x = other (in_append r w.before (w.route ∷ w.more) (subst (In r) w.whole here))
            where
              not_earlier : may_be_earlier d (routes_of d) w.route r ≡ false
              not_earlier = is_false (may_be_earlier d (routes_of d) w.route r)
                  (ap₂ (λ x y. x || not y || not (may_be_earlier d (routes_of d) w.route r)) (sym x) (sym w.may) ∙ list_all_at (λ q. is_route q r || not (can_visit d (routes_of d) l.train number q) || not (may_be_earlier d (routes_of d) q r)) (route_numbers (routes_of d)) w.route h (numbered d adm n plan well l.train w.route there))

              other : In r w.before ⊎ In r (w.route ∷ w.more) → Arrived l number k
              other (inl m) = before_it r on m
              other (inr (inl same)) = on_it (subst (λ s. In s (routes_of_place (last_of_leg l))) (sym same) on)
              other (inr (inr m)) = absurd (not_after r m not_earlier)

  pub ride_on : (l : Leg) → Proper l → (s : Stands l) → Ridden d adm n plan well l s.before s.route
  ride_on l proper s = ridden d adm n plan well l proper.some (keeps l proper) proper.next s.before s.route s.more s.whole s.on

  -- ---- from leg to leg

  module _ (l m : Leg) (pl : Proper l) (pm : Proper m) (i : Rides d (routes_of d) plan (ride_of (routes_of d) l)) (j : Rides d (routes_of d) plan (ride_of (routes_of d) m)) (last : In i.last (routes_of_place (last_of_leg l))) (first : In (first_of d (routes_of d) plan j.prefix j.last) (routes_of_place (first_of_leg m)))
      (meet : contend_where_they_meet d (routes_of d) l m ≡ true) (next : (test : Leg → Leg → Bool) → test l m ≡ true → any_next test b.legs ≡ true) where
    abbrev e : Command
    e = last_command d (routes_of d) plan (ride_of (routes_of d) l) i

    abbrev c : Command
    c = first_command d (routes_of d) plan (ride_of (routes_of d) m) j

    e_in : In e (commands plan)
    e_in = given l.train i.last (subst (In i.last) (sym (i.whole ∙ sym (append_assoc i.before i.prefix (i.last ∷ i.more)))) (in_middle (i.before ++ i.prefix) i.last i.more))

    c_in : In c (commands plan)
    c_in = let s = first_splits d adm n plan well m.train j.prefix j.last j.more in
        given m.train (first_of d (routes_of d) plan j.prefix j.last) (subst (In (first_of d (routes_of d) plan j.prefix j.last)) (sym (j.whole ∙ ap (λ zs. j.before ++ zs) s.1)) (in_middle j.before (first_of d (routes_of d) plan j.prefix j.last) s.0))

    over_own : contend_over_own d (routes_of d) e c ≡ true
    over_own = list_all_at (λ q. contend_over_own d (routes_of d) e (record { train = m.train; route = q })) (routes_of_place (first_of_leg m)) (first_of d (routes_of d) plan j.prefix j.last)
        (list_all_at (λ r. list_all (λ q. contend_over_own d (routes_of d) (record { train = l.train; route = r }) (record { train = m.train; route = q })) (routes_of_place (first_of_leg m))) (routes_of_place (last_of_leg l)) i.last meet last) first

    contending : contend (routes_of d) e c ≡ true
    contending = and_left (contend (routes_of d) e c) _ over_own

    at_both : (is_at l (last_of_leg l) e ≡ true) × (is_at m (first_of_leg m) c ≡ true)
    at_both = (and_both _ _ (eq-eqb l.train.0 l.train.0 refl) (in_has_route (routes_of_place (last_of_leg l)) i.last last), and_both _ _ (eq-eqb m.train.0 m.train.0 refl) (in_has_route (routes_of_place (first_of_leg m)) (first_of d (routes_of d) plan j.prefix j.last) first))

    earlier : nat_lt (step_of plan e) (step_of plan c) ≡ true
    earlier = go (is_named_place (last_of_leg l) && is_named_place (first_of_leg m)) refl
      where
        go : (x : Bool) → (is_named_place (last_of_leg l) && is_named_place (first_of_leg m)) ≡ x → nat_lt (step_of plan e) (step_of plan c) ≡ true
        go true x =
            let joined : joins e c l m ≡ true = and_both _ _ x (and_both _ _ at_both.0 at_both.1) in
            and_right (has_command plan e && has_command plan c) _ (p.earlier e c (known e e_in) (known c c_in) (or_left _ _ (next (joins e c) joined)))
        go false x =
            let joined : may_join e c l m ≡ true = and_both _ _ (ap not x) (and_both _ _ at_both.0 at_both.1) in
            apart e c e_in c_in contending (p.not_earlier c e (known c c_in) (known e e_in) (or_left _ _ (or_left _ _ (next (may_join e c) joined))))

    pub waits : In e (preceding (routes_of d) plan c)
    waits = in_filter (λ x. precedes (routes_of d) plan x c) (commands plan) e e_in (and_both _ _ contending earlier)

    pub meets_in : (z : SectionNo) × In z (own_shared (f i.last) (f (first_of d (routes_of d) plan j.prefix j.last)))
    meets_in = some_shared (f i.last) (f (first_of d (routes_of d) plan j.prefix j.last)) (and_right (contend (routes_of d) e c) _ over_own)
