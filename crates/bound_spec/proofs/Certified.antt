-- The clause of a valid certificate is true of every feasible plan.
use Rattle.std.proofs.Common.{◌≡◌, ℕ, zero, suc, ◌+◌, ◌-◌, ◌≤◌, inl, inr, Bool, true, false, not, ◌&&◌, ◌||◌, ◌==◌, if◌then◌else◌, nat_le, nat_lt, List, [], ◌∷◌, ◌++◌, map, take, length, sum_by, slice_get, Option, None, Some, is_none, is_some, refl, sym, ap, ap₂, subst, ◌∙◌, arith, leb-true, le-leb, eqb-true, eq-eqb, true≢false, le_refl, take_all}
use Rattle.std.specs.List.{list_any, list_all}
use Rattle.std.proofs.lemmas.List.{append_assoc, length-append, map-append, take-append-le}
use Rattle.std.proofs.lemmas.List.Folds.{list_any-append}
use Rattle.std.proofs.lemmas.List.Sums.{sum_by-append, sum_by-cons}
use Rattle.rail_base.specs.declared.station.Station.{Station}
use Rattle.rail_base.specs.declared.station.TrainNo.{TrainNo}
use Rattle.rail_base.specs.declared.route.Route.{Route}
use Rattle.rail_base.specs.declared.route.RouteNo.{RouteNo}
use Rattle.rail_base.specs.declared.plan.Command.{Command}
use Rattle.rail_base.specs.declared.state.PathNode.{PathNode}
use Rattle.rail_base.specs.declared.state.TrainState.{TrainState}
use Rattle.rail_base.specs.Admitted.{IsAdmitted}
use Rattle.rail_base.specs.Admission.{is_from, is_visit}
use Rattle.rail_base.specs.Members.{In, all_neighbors}
use Rattle.rail_base.specs.Numbering.{entry}
use Rattle.rail_base.specs.Stations.{IsTrain, horizon, within_of, order_of}
use Rattle.rail_spec.specs.Track.{routes_of}
use Rattle.rail_spec.specs.Plans.{route_at, is_train, path, path_routes, commands, length_mm, exits, preceding, precedes, contend, goes_on, route_numbers, all_commands}
use Rattle.rail_spec.specs.Feasible.{IsWellFormed, IsFeasible, is_of}
use Rattle.rail_spec.specs.Dispatches.{state_of, of_plan, has_cleared, is_ready, granted_with, granted_after}
use Rattle.rail_spec.specs.Dispatches.{pasts_at, state_at}
use Rattle.rail_spec.specs.Visits.{visits_of_train, visit_tick}
use Rattle.rail_base.proofs.Members.{and_left, and_right, and_both, or_left, or_right, list_all_at, is_false, false_unless}
use Rattle.rail_base.proofs.Lists.{in_filter_back, list_all_from, length-map}
use Rattle.rail_base.specs.declared.state.TrainEvent.{TrainEvent}
use Rattle.rail_laws.proofs.Admits.{sound}
use Rattle.rail_laws.proofs.Given.{same_train}
use Rattle.rail_laws.proofs.Standing.{in_path}
use Rattle.rail_laws.proofs.Progress.{state_after, moved_granted}
use Rattle.cone_spec.proofs.Saying.{in_has, is_of_in_all}
use Rattle.rail_laws.proofs.Deciding.{visit_stays}
use Rattle.cone_spec.specs.Cones.{named}
use Rattle.cone_spec.specs.Validity as cone
use Rattle.cone_spec.specs.Validity.{free_granted, holder_fits, cone_visit}
use Rattle.cone_spec.specs.Clauses.{is_false_of}
use Rattle.rail_laws.proofs.Running.{idle_at_first}
use Rattle.cone_spec.proofs.Fitting.{Rests}
use Rattle.cone_spec.proofs.Failing.{visit_same, in_time}
use Rattle.free_spec.proofs.Following.{has_train}
use Rattle.bound_spec.specs.declared.Requirement.{Requirement}
use Rattle.bound_spec.specs.declared.Requirement.TheVariants as requirement
use Rattle.bound_spec.specs.declared.Origin.{Origin}
use Rattle.bound_spec.specs.declared.Origin.TheVariants as origin
use Rattle.bound_spec.specs.declared.Place.{Place}
use Rattle.bound_spec.specs.declared.Place.TheVariants as place
use Rattle.bound_spec.specs.declared.Leg.{Leg}
use Rattle.bound_spec.specs.declared.Bound.{Bound}
use Rattle.bound_spec.specs.Events.{Takes, has_come_by}
use Rattle.bound_spec.specs.Walks.{walks}
use Rattle.bound_spec.specs.Rides.{Ride, Rides, walk_of, first_of, reaches, granted_first, passes, first_target, Chained, arrives, waits_out, first_place, release_place}
use Rattle.bound_spec.specs.Certificates.{VisitOf, routes_of_place, first_of_leg, last_of_leg, ride_of, visit_offset, visit_place, visit_from, visit_to, train_to, target, cone_of}
use Rattle.bound_spec.specs.Clauses.{any_next, may_join, begins_at_once, clause_of_bound}
use Rattle.bound_spec.specs.Validity.{most_looks, stretches_of, followed, is_empty, first_leg, last_leg, legs_before_last, leg_in_design, place_in_design, most_places, places_of, are_few_choices, contend_where_they_meet, requirement_in_design, can_visit, comes_before, is_used, is_visited, is_just, reaches_target, is_made_at_end, begins_with, is_first_route, is_ahead, are_ahead, ticks_to, ticks_from_visit, passes_between, is_too_long, is_too_late, origin_in_design, is_consistent, in_design, origin_covered, covered, is_made_at, cone_shows, origin_shows, shows_failure, first_fault, is_valid_bound}
use Rattle.bound_spec.proofs.Premises.{Premises, premises, cone_denied}
use Rattle.bound_spec.proofs.Backwards.{Ridden, in_middle, first_splits, numbered}
use Rattle.bound_spec.proofs.Visits.{path_length, MadeOn, made_on, first_made, second_by}
use Rattle.bound_spec.proofs.Meeting.{Makes, PassedAt, passed_at, met, TwoVisits, two_visits}
use Rattle.bound_spec.proofs.Chains.{Proper, Arrived, stands_on, arrived, ride_on, waits, meets_in}
use Rattle.bound_spec.proofs.Rides.{chain_takes, chain_takes_from, waits_take, next_in}
use Rattle.bound_spec.proofs.Walks.{walk_in, path_goes}
use Rattle.bound_spec.proofs.Coming.{come_now}
use Rattle.free_spec.proofs.Following.{neighbors_after}

module _ (d : Station) (adm : IsAdmitted d) (n : ℕ) (b : Bound) (plan : List (List Command)) (feasible : IsFeasible d n plan) (p : Premises d (routes_of d) b plan) where
  abbrev f : RouteNo → Route
  f r = route_at (routes_of d) r

  abbrev well : IsWellFormed d (routes_of d) n plan
  well = feasible.runnable.well_formed

  abbrev at : ℕ → TrainNo → TrainState
  at k t = state_of (state_at d (routes_of d) (of_plan (routes_of d) plan) k) t

  abbrev Ridden_on : Leg → Type 0
  Ridden_on l = Rides d (routes_of d) plan (ride_of (routes_of d) l)

  -- ---- the chain of rides

  -- the last ride is so
  abbrev EndsSo : ((m : Leg) → Ridden_on m → Type 0) → (l : Leg) (ls : List Leg) (i : Ridden_on l) → Chained d (routes_of d) plan (ride_of (routes_of d) l) i (map (ride_of (routes_of d)) ls) → Type 0
  EndsSo P l [] i c = P l i
  EndsSo P l (m ∷ ls) i c = EndsSo P m ls c.0 c.3

  record Chain (P : (m : Leg) → Ridden_on m → Type 0) (l : Leg) (ls : List Leg) : Type 0 where
    ride : Ridden_on l
    chained : Chained d (routes_of d) plan (ride_of (routes_of d) l) ride (map (ride_of (routes_of d)) ls)
    first : In (first_of d (routes_of d) plan ride.prefix ride.last) (routes_of_place (first_of_leg l))
    ends : EndsSo P l ls ride chained

  -- a ride on a leg, with its first and last route
  record Ride_on (P : (m : Leg) → Ridden_on m → Type 0) (l : Leg) : Type 0 where
    ride : Ridden_on l
    first : In (first_of d (routes_of d) plan ride.prefix ride.last) (routes_of_place (first_of_leg l))
    ends : P l ride

  abbrev proper : Leg → Type 0
  proper l = Proper d adm n b plan feasible p l

  chain : (P : (m : Leg) → Ridden_on m → Type 0) (l : Leg) (ls : List Leg) → ((x : Leg) → In x (l ∷ ls) → proper x) → list_all (λ l. is_used d (routes_of d) l.train (last_of_leg l)) (legs_before_last (l ∷ ls)) ≡ true
      → all_neighbors (contend_where_they_meet d (routes_of d)) (l ∷ ls) ≡ true → ((test : Leg → Leg → Bool) → any_next test (l ∷ ls) ≡ true → any_next test b.legs ≡ true) → Ride_on P (last_leg (l ∷ ls)) → Chain P l ls
  chain P l [] each used meet next last = record { ride = last.ride; chained = tt; first = last.first; ends = last.ends }
  chain P l (m ∷ ls) each used meet next last =
      let later = chain P m ls (λ x i. each x (inr i)) (and_right (is_used d (routes_of d) l.train (last_of_leg l)) _ used) (and_right (contend_where_they_meet d (routes_of d) l m) _ meet) (λ test h. next test (or_right (test l m) _ h)) last in
      let pl = each l (inl refl) in
      let pm = each m (inr (inl refl)) in
      let s = stands_on d adm n b plan feasible p l pl (and_left (is_used d (routes_of d) l.train (last_of_leg l)) _ used) in
      let r = ride_on d adm n b plan feasible p l pl s in
      let on : In r.ride.last (routes_of_place (last_of_leg l)) = subst (λ x. In x (routes_of_place (last_of_leg l))) (sym r.ends) s.on in
      let met_here = and_left (contend_where_they_meet d (routes_of d) l m) _ meet in
      let joined : (test : Leg → Leg → Bool) → test l m ≡ true → any_next test b.legs ≡ true = λ test h. next test (or_left (test l m) _ h) in
      record {
        ride = r.ride;
        chained = (later.ride, waits d adm n b plan feasible p l m pl pm r.ride later.ride on later.first met_here joined, meets_in d adm n b plan feasible p l m pl pm r.ride later.ride on later.first met_here joined, later.chained);
        first = r.first;
        ends = later.ends;
      }

  -- ---- where it ends

  -- by tick k the ride has come to its visit
  abbrev Comes : VisitOf → ℕ → (m : Leg) → Ridden_on m → Type 0
  Comes v k m i = has_come_by d (routes_of d) plan (reaches d (routes_of d) plan (ride_of (routes_of d) m) i (target d v (walk_of d (routes_of d) plan (ride_of (routes_of d) m) i))) k ≡ true

  -- by tick k its first command is granted
  abbrev Goes : ℕ → (m : Leg) → Ridden_on m → Type 0
  Goes k m i = has_come_by d (routes_of d) plan (granted_first d (routes_of d) plan (ride_of (routes_of d) m) i) k ≡ true

  target_is : (v : VisitOf) (prefix : List RouteNo) (r : RouteNo) → target d v (map f (prefix ++ r ∷ [])) ≡ path_length d adm prefix + visit_offset d v.train v.number (f r)
  target_is v [] r = omega arith
  target_is v (q ∷ []) r = let s = sum_by-cons length_mm (f q) [] in omega arith
  target_is v (q ∷ q' ∷ prefix) r = let k = target_is v (q' ∷ prefix) r in let s = sum_by-cons length_mm (f q) (map f (q' ∷ prefix)) in omega arith

  path_length_append : (xs ys : List RouteNo) → path_length d adm (xs ++ ys) ≡ path_length d adm xs + path_length d adm ys
  path_length_append xs ys = ap (sum_by length_mm) (map-append f xs ys) ∙ sum_by-append length_mm (map f xs) (map f ys)

  comes : (m : Leg) → proper m → (v : VisitOf) (k : ℕ) → v.train ≡ m.train → is_visited d (routes_of d) v.train v.number (last_of_leg m) ≡ true → Makes d adm n plan feasible v k → Ride_on (Comes v k) m
  comes m pm v k same visited makes =
      let a = arrived d adm n b plan feasible p m pm v.number k (subst (λ t. is_visited d (routes_of d) t v.number (last_of_leg m) ≡ true) same visited) (subst (λ t. Makes d adm n plan feasible (record { train = t; number = v.number }) k) same makes) in
      let r = ride_on d adm n b plan feasible p m pm a.stands in
      record { ride = r.ride; first = r.first; ends = there a r }
    where
      there : (a : Arrived d adm n b plan feasible p m v.number k) (r : Ridden d adm n plan well m a.stands.before a.stands.route) → Comes v k m r.ride
      there a r =
          let count = ap length r.split ∙ length-append r.ride.before r.ride.prefix in
          let sum = ap (path_length d adm) r.split ∙ path_length_append r.ride.before r.ride.prefix in
          let t = target_is v r.ride.prefix r.ride.last in
          let e : visit_offset d v.train v.number (f r.ride.last) ≡ visit_offset d m.train v.number (f a.stands.route) = ap₂ (λ t x. visit_offset d t v.number (f x)) same r.ends in
          let g = a.granted in
          let h = a.head in
          come_now d (routes_of d) plan (reaches d (routes_of d) plan (ride_of (routes_of d) m) r.ride (target d v (walk_of d (routes_of d) plan (ride_of (routes_of d) m) r.ride))) k refl
          ∙ and_both _ _ (le-leb (length r.ride.before + length r.ride.prefix + 1) (at k m.train).granted (omega arith))
          (le-leb (path_length d adm r.ride.before + target d v (walk_of d (routes_of d) plan (ride_of (routes_of d) m) r.ride)) (at k m.train).x (omega arith))

  -- the last leg of a command that is to be granted
  goes : (m : Leg) → proper m → (r : RouteNo) → is_just d (routes_of d) r m.places ≡ true → Ride_on (Goes (horizon d)) m
  goes m pm r just = go m.places refl just
    where
      granted : (i : Ridden_on m) → Goes (horizon d) m i
      granted i =
          let count = ap length i.whole ∙ length-append i.before (i.prefix ++ i.last ∷ i.more) in
          let count2 = length-append i.prefix (i.last ∷ i.more) in
          let train = has_train d adm n plan well m.train (omega arith) in
          come_now d (routes_of d) plan (granted_first d (routes_of d) plan (ride_of (routes_of d) m) i) (horizon d) refl
          ∙ and_both _ _ ((met d adm n plan feasible).granted m.train (length i.before + 1) train (omega arith) (omega arith)) (le-leb 0 (at (horizon d) m.train).x (omega arith))

      go : (ps : List Place) → m.places ≡ ps → is_just d (routes_of d) r ps ≡ true → Ride_on (Goes (horizon d)) m
      go [] e h = absurd (true≢false (sym h))
      go (place.Named q ∷ []) e h =
          let s = stands_on d adm n b plan feasible p m pm (subst (λ ps. is_used d (routes_of d) m.train (last_of ps) ≡ true) (sym e) refl) in
          let w = ride_on d adm n b plan feasible p m pm s in
          record { ride = w.ride; first = w.first; ends = granted w.ride }
        where
          last_of : List Place → Place
          last_of ps = last_of_leg (record { train = m.train; places = ps })
      go (place.Named q ∷ s ∷ ps) e h = absurd (true≢false (sym h))
      go (place.Among rs without ∷ ps) e h = absurd (true≢false (sym h))

  -- ---- how long it takes

  arrives_so : (v : VisitOf) (k : ℕ) (l : Leg) (ls : List Leg) (i : Ridden_on l) (c : Chained d (routes_of d) plan (ride_of (routes_of d) l) i (map (ride_of (routes_of d)) ls)) → EndsSo (Comes v k) l ls i c
      → has_come_by d (routes_of d) plan (arrives d (routes_of d) plan (ride_of (routes_of d) l) i (map (ride_of (routes_of d)) ls) c (target d v)) k ≡ true
  arrives_so v k l [] i c so = so
  arrives_so v k l (m ∷ ls) i c so = arrives_so v k m ls c.0 c.3 so

  waits_so : (k : ℕ) (l : Leg) (ls : List Leg) (i : Ridden_on l) (c : Chained d (routes_of d) plan (ride_of (routes_of d) l) i (map (ride_of (routes_of d)) ls)) → EndsSo (Goes k) l ls i c
      → has_come_by d (routes_of d) plan (waits_out d (routes_of d) plan (ride_of (routes_of d) l) i (map (ride_of (routes_of d)) ls) c) k ≡ true
  waits_so k l [] i c so = so
  waits_so k l (m ∷ ls) i c so = waits_so k m ls c.0 c.3 so

  -- nothing is granted at the start
  granted_later : (m : Leg) (i : Ridden_on m) (k : ℕ) → Goes k m i → 1 ≤ k
  granted_later m i zero so =
      let g = leb-true _ _ (and_left (nat_le (length i.before + 1) (at 0 m.train).granted) (nat_le 0 (at 0 m.train).x) (sym (come_now d (routes_of d) plan (granted_first d (routes_of d) plan (ride_of (routes_of d) m) i) 0 refl) ∙ so)) in
      let none = ap (λ (s : TrainState). s.granted) (idle_at_first d (routes_of d) (of_plan (routes_of d) plan) m.train) in
      absurd (omega arith)
  granted_later m i (suc k) so = omega arith

  -- from the start of the run
  from_start : (m : Leg) (i : Ridden_on m) (e : TrainEvent) (c k : ℕ) → Takes d (routes_of d) plan (granted_first d (routes_of d) plan (ride_of (routes_of d) m) i) e c k → 1 + c ≤ k
  from_start m i e c k h = let some = granted_later m i (k - c) h.happened in let l = h.not_before in omega arith

  visit_after : (most : ℕ) (v : VisitOf) (k : ℕ) (l : Leg) (ls : List Leg) → Chain (Comes v k) l ls → 1 + ticks_to d (routes_of d) most (Some v) (l ∷ ls) ≤ k
  visit_after most v k l ls c = from_start l c.ride _ (ticks_to d (routes_of d) most (Some v) (l ∷ ls)) k
      (chain_takes d adm n plan well most (ride_of (routes_of d) l) c.ride (map (ride_of (routes_of d)) ls) c.chained (target d v) k (arrives_so v k l ls c.ride c.chained c.ends))

  grant_after : (most k : ℕ) (l : Leg) (ls : List Leg) → Chain (Goes k) l ls → 1 + ticks_to d (routes_of d) most None (l ∷ ls) ≤ k
  grant_after most k l ls c = from_start l c.ride _ (ticks_to d (routes_of d) most None (l ∷ ls)) k
      (waits_take d adm n plan well most (ride_of (routes_of d) l) c.ride (map (ride_of (routes_of d)) ls) c.chained k (waits_so k l ls c.ride c.chained c.ends))

  -- ---- from a visit

  -- the ride's path, split at its first route
  record Begun (l : Leg) (i : Ridden_on l) : Type 0 where
    rest : List RouteNo
    whole : path plan l.train ≡ i.before ++ first_of d (routes_of d) plan i.prefix i.last ∷ rest

  begun : (l : Leg) (i : Ridden_on l) → Begun l i
  begun l i = let s = first_splits d adm n plan well l.train i.prefix i.last i.more in record { rest = s.0; whole = i.whole ∙ ap (λ zs. i.before ++ zs) s.1 }

  visit_place_is : (v : VisitOf) (l : Leg) (i : Ridden_on l) → visit_place d v (walk_of d (routes_of d) plan (ride_of (routes_of d) l) i) ≡ visit_offset d v.train v.number (f (first_of d (routes_of d) plan i.prefix i.last))
  visit_place_is v l i = go i.prefix
    where
      go : (prefix : List RouteNo) → visit_place d v (map f (prefix ++ i.last ∷ [])) ≡ visit_offset d v.train v.number (f (first_of d (routes_of d) plan prefix i.last))
      go [] = refl
      go (q ∷ prefix) = refl

  -- a path ends with a route that exits
  exit_is_last : (t : TrainNo) (before : List RouteNo) (r : RouteNo) (rest : List RouteNo) → path plan t ≡ before ++ r ∷ rest → exits (f r) ≡ true → length (path plan t) ≤ length before + 1
  exit_is_last t before r rest whole out =
      let count = ap length whole ∙ length-append before (r ∷ rest) in
      let long = length-map f (path plan t) in
      let split : path_routes (routes_of d) plan t ≡ (map f before ++ f r ∷ []) ++ map f rest = ap (map f) whole ∙ map-append f before (r ∷ rest) ∙ sym (append_assoc (map f before) (f r ∷ []) (map f rest)) in
      let size = length-append (map f before) (f r ∷ []) in
      let size2 = length-map f before in
      let prefix : take (length (map f before ++ f r ∷ [])) (path_routes (routes_of d) plan t) ≡ map f before ++ f r ∷ [] =
      ap (take (length (map f before ++ f r ∷ []))) split ∙ take-append-le (length (map f before ++ f r ∷ [])) (map f before ++ f r ∷ []) (map f rest) (le_refl _) ∙ take_all (length (map f before ++ f r ∷ [])) (map f before ++ f r ∷ []) (le_refl _) in
      let some : list_any exits (take (length (map f before ++ f r ∷ [])) (path_routes (routes_of d) plan t)) ≡ true =
      ap (list_any exits) prefix ∙ list_any-append exits (map f before) (f r ∷ []) ∙ or_right (list_any exits (map f before)) _ (or_left (exits (f r)) false out) in
      let last = (sound d adm n plan well.formed).exit_last t (length (map f before ++ f r ∷ [])) (has_train d adm n plan well t (omega arith)) some in
      omega arith

  -- a visit is made no later than on the first route of a ride that begins with a route of it
  visited_by_then : (v : VisitOf) (x k : ℕ) (l : Leg) (i : Ridden_on l) → v.train ≡ l.train → In (first_of d (routes_of d) plan i.prefix i.last) (routes_of_place (first_of_leg l)) → begins_with d (routes_of d) v (first_of_leg l) ≡ true → nat_le v.number 1 ≡ false
      → Makes d adm n plan feasible v x → has_come_by d (routes_of d) plan (passes d (routes_of d) plan (ride_of (routes_of d) l) i (visit_place d v (walk_of d (routes_of d) plan (ride_of (routes_of d) l) i))) k ≡ true → x ≤ k
  visited_by_then v x k l i same first begins later makes so = go (v.number == 2) refl (and_right (list_all (can_visit d (routes_of d) v.train v.number) (routes_of_place (first_of_leg l))) _ both)
    where
      r : RouteNo
      r = first_of d (routes_of d) plan i.prefix i.last

      w : PassedAt d adm n plan feasible v x
      w = passed_at d adm n plan feasible v x makes

      b0 : Begun l i
      b0 = begun l i

      whole : path plan v.train ≡ i.before ++ r ∷ b0.rest
      whole = ap (path plan) same ∙ b0.whole

      both : (list_all (can_visit d (routes_of d) v.train v.number) (routes_of_place (first_of_leg l)) && (v.number == 2 || is_made_at_end d (routes_of d) v)) ≡ true
      both = sym (ap (λ x. if x then list_all (is_first_route d (routes_of d)) (routes_of_place (first_of_leg l)) else list_all (can_visit d (routes_of d) v.train v.number) (routes_of_place (first_of_leg l)) && (v.number == 2 || is_made_at_end d (routes_of d) v)) later) ∙ begins

      may : can_visit d (routes_of d) v.train v.number r ≡ true
      may = list_all_at (can_visit d (routes_of d) v.train v.number) (routes_of_place (first_of_leg l)) r (and_left _ (v.number == 2 || is_made_at_end d (routes_of d) v) both) first

      now : (nat_le (length i.before + 1) (at k l.train).granted && nat_le (path_length d adm i.before + visit_place d v (walk_of d (routes_of d) plan (ride_of (routes_of d) l) i)) (at k l.train).x) ≡ true
      now = sym (come_now d (routes_of d) plan (passes d (routes_of d) plan (ride_of (routes_of d) l) i (visit_place d v (walk_of d (routes_of d) plan (ride_of (routes_of d) l) i))) k refl) ∙ so

      granted : length i.before + 1 ≤ (at k l.train).granted
      granted = leb-true _ _ (and_left (nat_le (length i.before + 1) (at k l.train).granted) _ now)

      head : path_length d adm i.before + visit_offset d v.train v.number (f r) ≤ (at k l.train).x
      head = let h = leb-true _ _ (and_right (nat_le (length i.before + 1) (at k l.train).granted) (nat_le (path_length d adm i.before + visit_place d v (walk_of d (routes_of d) plan (ride_of (routes_of d) l) i)) (at k l.train).x) now) in let e = visit_place_is v l i in omega arith

      some : 1 ≤ k
      some = go k granted
        where
          go : (k : ℕ) → length i.before + 1 ≤ (at k l.train).granted → 1 ≤ k
          go zero g = let none = ap (λ (s : TrainState). s.granted) (idle_at_first d (routes_of d) (of_plan (routes_of d) plan) l.train) in absurd (omega arith)
          go (suc k) g = omega arith

      passed : w.path_node.event.granted ≤ length i.before + 1 → w.path_node.event.place ≤ path_length d adm i.before + visit_offset d v.train v.number (f r) → x ≤ k
      passed number near =
          let g = granted in let h = head in
          let eg = ap (λ t. (at k t).granted) same in
          let ex = ap (λ t. (at k t).x) same in
          w.first k some (and_both _ _ (le-leb w.path_node.event.granted (at k v.train).granted (omega arith)) (le-leb w.path_node.event.place (at k v.train).x (omega arith)))

      go : (y : Bool) → (v.number == 2) ≡ y → (y || is_made_at_end d (routes_of d) v) ≡ true → x ≤ k
      go true second h = two v.number (eqb-true v.number 2 second) refl
        where
          two : (m : ℕ) → m ≡ 2 → v.number ≡ m → x ≤ k
          two m is e =
              let is2 = e ∙ is in
              let s = second_by d adm n plan well v.train w.path_node i.before r b0.rest whole (subst (λ m. can_visit d (routes_of d) v.train m r ≡ true) is2 may) (subst (λ m. entry_of m ≡ Some w.path_node) is2 w.there) in
              let off = ap (λ m. visit_offset d v.train m (f r)) is2 in
              let near = s.0 in
              passed s.1 (omega arith)
            where
              entry_of : ℕ → Option PathNode
              entry_of m = entry None (visits_of_train d (routes_of d) (of_plan (routes_of d) plan) v.train) m
      go false second h =
          let m = made_on d adm n plan well v.train v.number w.path_node w.there in
          let all = λ (q : RouteNo) (here : In q (path plan v.train)) (can : can_visit d (routes_of d) v.train v.number q ≡ true). at_end q here can h in
          let mine = all r (subst (In r) (sym whole) (in_middle i.before r b0.rest)) may in
          let other = all m.route (subst (In m.route) (sym m.whole) (in_middle m.before m.route m.more)) m.may in
          let last = exit_is_last v.train i.before r b0.rest whole mine.0 in
          let last2 = exit_is_last v.train m.before m.route m.more m.whole other.0 in
          let count = ap length whole ∙ length-append i.before (r ∷ b0.rest) in
          let count2 = ap length m.whole ∙ length-append m.before (m.route ∷ m.more) in
          let sum = ap (path_length d adm) whole ∙ path_length_append i.before (r ∷ b0.rest) in
          let sum2 = ap (path_length d adm) m.whole ∙ path_length_append m.before (m.route ∷ m.more) in
          let sum3 = sum_by-cons length_mm (f r) (map f b0.rest) in
          let sum4 = sum_by-cons length_mm (f m.route) (map f m.more) in
          let none = ap (path_length d adm) (empty b0.rest (omega arith)) in
          let off = mine.1 in
          let c = m.command in
          let hi = m.high in
          passed (omega arith) (omega arith)
        where
          empty : (xs : List RouteNo) → length xs ≡ 0 → xs ≡ []
          empty [] e = refl
          empty (y ∷ ys) e = absurd (omega arith)

          at_end : (q : RouteNo) → In q (path plan v.train) → can_visit d (routes_of d) v.train v.number q ≡ true → is_made_at_end d (routes_of d) v ≡ true → (exits (f q) ≡ true) × (visit_offset d v.train v.number (f q) ≡ length_mm (f q))
          at_end q here can all =
              let g = list_all_at (λ r. not (can_visit d (routes_of d) v.train v.number r) || exits (f r) && (visit_offset d v.train v.number (f r) == length_mm (f r))) (route_numbers (routes_of d)) q all (numbered d adm n plan well v.train q here) in
              let k : (exits (f q) && (visit_offset d v.train v.number (f q) == length_mm (f q))) ≡ true = sym (ap (λ x. not x || exits (f q) && (visit_offset d v.train v.number (f q) == length_mm (f q))) can) ∙ g in
              (and_left (exits (f q)) _ k, eqb-true _ _ (and_right (exits (f q)) _ k))

  -- the first visit is made as the first command is granted
  first_visited_by : (v : VisitOf) (x k : ℕ) (l : Leg) (i : Ridden_on l) → v.train ≡ l.train → In (first_of d (routes_of d) plan i.prefix i.last) (routes_of_place (first_of_leg l)) → begins_with d (routes_of d) v (first_of_leg l) ≡ true → nat_le v.number 1 ≡ true
      → Makes d adm n plan feasible v x → Goes k l i → x ≤ k
  first_visited_by v x k l i same first begins early makes so = go v.number refl (leb-true v.number 1 early)
    where
      w : PassedAt d adm n plan feasible v x
      w = passed_at d adm n plan feasible v x makes

      granted : length i.before + 1 ≤ (at k l.train).granted
      granted = leb-true _ _ (and_left (nat_le (length i.before + 1) (at k l.train).granted) (nat_le 0 (at k l.train).x) (sym (come_now d (routes_of d) plan (granted_first d (routes_of d) plan (ride_of (routes_of d) l) i) k refl) ∙ so))

      entry_of : ℕ → Option PathNode
      entry_of m = entry None (visits_of_train d (routes_of d) (of_plan (routes_of d) plan) v.train) m

      go : (m : ℕ) → v.number ≡ m → m ≤ 1 → x ≤ k
      go zero e h = let none : None ≡ Some w.path_node = sym (ap entry_of e) ∙ w.there in cc
      go (suc (suc m)) e h = absurd (omega arith)
      go (suc zero) e h =
          let s = first_made d adm n plan well v.train w.path_node (sym (ap entry_of e) ∙ w.there) in
          let off = s.0 in
          let number = s.1 in
          let g = granted in
          let eg = ap (λ t. (at k t).granted) same in
          w.first k (granted_later l i k so) (and_both _ _ (le-leb w.path_node.event.granted (at k v.train).granted (omega arith)) (le-leb w.path_node.event.place (at k v.train).x (omega arith)))

  -- the ticks from the one visit to the other
  between : (most : ℕ) (from to : VisitOf) (x y : ℕ) (l : Leg) (ls : List Leg) → from.train ≡ l.train → begins_with d (routes_of d) from (first_of_leg l) ≡ true → Makes d adm n plan feasible from x → Chain (Comes to y) l ls
      → (test : ℕ → Bool) → passes_between d (routes_of d) most from to (l ∷ ls) test ≡ true → (c : ℕ) × (test c ≡ true) × (x + c ≤ y)
  between most from to x y l ls same begins makes c test h = go (nat_le from.number 1) refl h
    where
      ride : Ride
      ride = ride_of (routes_of d) l

      so : has_come_by d (routes_of d) plan (arrives d (routes_of d) plan (ride_of (routes_of d) l) c.ride (map (ride_of (routes_of d)) ls) c.chained (target d to)) y ≡ true
      so = arrives_so to y l ls c.ride c.chained c.ends

      -- the walk of the ride is one of those of the leg
      among : In (walk_of d (routes_of d) plan (ride_of (routes_of d) l) c.ride) (walks (ride_of (routes_of d) l).places)
      among =
          let i = c.ride in
          let split : path_routes (routes_of d) plan l.train ≡ map f i.before ++ (map f (i.prefix ++ i.last ∷ []) ++ map f i.more) =
          ap (map f) (i.whole ∙ ap (λ zs. i.before ++ zs) (sym (append_assoc i.prefix (i.last ∷ []) i.more)))
          ∙ map-append f i.before ((i.prefix ++ i.last ∷ []) ++ i.more) ∙ ap (λ zs. map f i.before ++ zs) (map-append f (i.prefix ++ i.last ∷ []) i.more) in
          walk_in (map f (i.prefix ++ i.last ∷ [])) (map f i.more) (ride_of (routes_of d) l).places i.lies (neighbors_after (λ r q. goes_on r.finish q.start) (map f i.before) (map f (i.prefix ++ i.last ∷ []) ++ map f i.more) (path_goes d adm n plan well l.train _ split))

      ahead : are_ahead d (routes_of d) from to (l ∷ ls) ≡ true → visit_place d from (walk_of d (routes_of d) plan (ride_of (routes_of d) l) c.ride) ≤ first_target d (routes_of d) plan (ride_of (routes_of d) l) c.ride (map (ride_of (routes_of d)) ls) c.chained (target d to)
      ahead all = at_legs ls c.chained (list_all_at (is_ahead d (routes_of d) from to l ls) (walks (ride_of (routes_of d) l).places) _ all among)
        where
          at_legs : (ls : List Leg) (ch : Chained d (routes_of d) plan (ride_of (routes_of d) l) c.ride (map (ride_of (routes_of d)) ls)) → is_ahead d (routes_of d) from to l ls (walk_of d (routes_of d) plan (ride_of (routes_of d) l) c.ride) ≡ true
              → visit_place d from (walk_of d (routes_of d) plan (ride_of (routes_of d) l) c.ride) ≤ first_target d (routes_of d) plan (ride_of (routes_of d) l) c.ride (map (ride_of (routes_of d)) ls) ch (target d to)
          at_legs [] ch k = leb-true _ _ k
          at_legs (m ∷ ms) ch k = leb-true _ _ (list_all_at (λ s. nat_le (visit_place d from (walk_of d (routes_of d) plan (ride_of (routes_of d) l) c.ride)) (release_place d l.train (walk_of d (routes_of d) plan (ride_of (routes_of d) l) c.ride) s)) (first_place (ride_of (routes_of d) m)) _ k
              (next_in d adm n plan well most (ride_of (routes_of d) l) c.ride (ride_of (routes_of d) m) ch.0))

      go : (z : Bool) → nat_le from.number 1 ≡ z → (if z then test (ticks_to d (routes_of d) most (Some to) (l ∷ ls)) else are_ahead d (routes_of d) from to (l ∷ ls) && test (ticks_from_visit d (routes_of d) most from to (l ∷ ls))) ≡ true → (c : ℕ) × (test c ≡ true) × (x + c ≤ y)
      go true early h =
          let t = chain_takes d adm n plan well most (ride_of (routes_of d) l) c.ride (map (ride_of (routes_of d)) ls) c.chained (target d to) y so in
          let b = first_visited_by from x (y - ticks_to d (routes_of d) most (Some to) (l ∷ ls)) l c.ride same c.first begins early makes t.happened in
          let k = t.not_before in
          (ticks_to d (routes_of d) most (Some to) (l ∷ ls), h, omega arith)
      go false later h =
          let a = ahead (and_left (are_ahead d (routes_of d) from to (l ∷ ls)) _ h) in
          let t = chain_takes_from d adm n plan well most (visit_place d from) (ride_of (routes_of d) l) c.ride (map (ride_of (routes_of d)) ls) c.chained (target d to) y a so in
          let b = visited_by_then from x (y - ticks_from_visit d (routes_of d) most from to (l ∷ ls)) l c.ride same c.first begins later makes t.happened in
          let k = t.not_before in
          (ticks_from_visit d (routes_of d) most from to (l ∷ ls), and_right (are_ahead d (routes_of d) from to (l ∷ ls)) _ h, omega arith)

  -- ---- the first tick

  -- where nothing is given before the command with which a train can begin, the train's first visit is made in the first tick
  first_tick : (v : VisitOf) (x : ℕ) → v.number ≡ 1 → b.origin ≡ origin.FirstTick → visit_from d b.requirement ≡ Some v → Makes d adm n plan feasible v x → x ≤ 1
  first_tick v x one first from makes = first_pass
    where
      w : PassedAt d adm n plan feasible v x
      w = passed_at d adm n plan feasible v x makes

      entry_of : ℕ → Option PathNode
      entry_of m = entry None (visits_of_train d (routes_of d) (of_plan (routes_of d) plan) v.train) m

      m : MadeOn d adm n plan well v.train 1 w.path_node
      m = made_on d adm n plan well v.train 1 w.path_node (sym (ap entry_of one) ∙ w.there)

      start : (w.path_node.event.place ≡ 0) × (w.path_node.event.granted ≡ 1)
      start = first_made d adm n plan well v.train w.path_node (sym (ap entry_of one) ∙ w.there)

      none_before : m.before ≡ []
      none_before = let c = m.command in let s = start.1 in empty m.before (omega arith)
        where
          empty : (xs : List RouteNo) → length xs ≡ 0 → xs ≡ []
          empty [] e = refl
          empty (y ∷ ys) e = absurd (omega arith)

      c : Command
      c = record { train = v.train; route = m.route }

      here : path plan v.train ≡ m.route ∷ m.more
      here = m.whole ∙ ap (λ zs. zs ++ m.route ∷ m.more) none_before

      c_in : In c (commands plan)
      c_in = in_path v.train plan m.route (subst (In m.route) (sym here) (inl refl))

      known : (e : Command) → In e (commands plan) → In e (all_commands d (routes_of d))
      known e i = is_of_in_all d (routes_of d) e (list_all_at (is_of d (routes_of d)) (commands plan) e well.named i)

      nothing : (e : Command) → In e (preceding (routes_of d) plan c) → ⊥
      nothing e i =
          let kept = in_filter_back (λ x. precedes (routes_of d) plan x c) (commands plan) e i in
          let meet = and_left (contend (routes_of d) e c) _ kept.1 in
          let earlier = and_right (contend (routes_of d) e c) _ kept.1 in
          let at_once : begins_at_once d (routes_of d) b b.origin (visit_from d b.requirement) c ≡ true = ap₂ (λ o w. begins_at_once d (routes_of d) b o w c) first from ∙ and_both _ _ (eq-eqb v.train.0 v.train.0 refl) m.may in
          let behind = p.not_earlier e c (known e kept.0) (known c c_in) (or_left _ _ (or_right (any_next (may_join c e) b.legs) _ (and_both _ _ at_once meet))) in
          true≢false (sym (and_both _ _ (and_both _ _ (in_has plan e kept.0) (in_has plan c c_in)) earlier) ∙ behind)

      ready : is_ready d (routes_of d) (of_plan (routes_of d) plan) (pasts_at d (routes_of d) (of_plan (routes_of d) plan) 0) c ≡ true
      ready = list_all_from (has_cleared d (routes_of d) (of_plan (routes_of d) plan) (pasts_at d (routes_of d) (of_plan (routes_of d) plan) 0) c) (preceding (routes_of d) plan c) (λ e i. absurd (nothing e i))

      named_train : IsTrain d v.train
      named_train = has_train d adm n plan well v.train (let l = ap length here in omega arith)

      granted : 1 ≤ (at 1 v.train).granted
      granted =
          let none : (at 0 v.train).granted ≡ 0 = ap (λ (s : TrainState). s.granted) (idle_at_first d (routes_of d) (of_plan (routes_of d) plan) v.train) in
          let next : slice_get (path plan v.train) (at 0 v.train).granted ≡ Some m.route = ap (slice_get (path plan v.train)) none ∙ ap (λ ps. slice_get ps 0) here in
          let after : granted_after d (routes_of d) (of_plan (routes_of d) plan) (pasts_at d (routes_of d) (of_plan (routes_of d) plan) 0) v.train ≡ (at 0 v.train).granted + 1 =
          ap (granted_with d (routes_of d) (of_plan (routes_of d) plan) (pasts_at d (routes_of d) (of_plan (routes_of d) plan) 0) v.train) next ∙ ap (λ r. if r then (at 0 v.train).granted + 1 else (at 0 v.train).granted) ready in
          let g = ap (λ (s : TrainState). s.granted) (state_after d (routes_of d) plan 0 v.train named_train) ∙ moved_granted d (routes_of d) plan v.train (at 0 v.train) (granted_after d (routes_of d) (of_plan (routes_of d) plan) (pasts_at d (routes_of d) (of_plan (routes_of d) plan) 0) v.train) (omega arith) in
          omega arith

      first_pass : x ≤ 1
      first_pass =
          let off = start.0 in
          let number = start.1 in
          let g = granted in
          w.first 1 (omega arith) (and_both _ _ (le-leb w.path_node.event.granted (at 1 v.train).granted (omega arith)) (le-leb w.path_node.event.place (at 1 v.train).x (omega arith)))

-- ---- what it is that no reason holds against a certificate

record Holds (d : Station) (routes : List Route) (b : Bound) : Type 0 where
  in_design : in_design d routes b ≡ true
  covered : covered d routes b ≡ true
  shows_failure : shows_failure d routes b ≡ true

holds_of_valid : (d : Station) (routes : List Route) (b : Bound) → is_valid_bound d routes b ≡ true → Holds d routes b
holds_of_valid d routes b = go (in_design d routes b) (covered d routes b) (shows_failure d routes b) refl refl refl
  where
    go : (x y z : Bool) → in_design d routes b ≡ x → covered d routes b ≡ y → shows_failure d routes b ≡ z → is_none (first_fault x y z) ≡ true → Holds d routes b
    go true true true f g h v = record { in_design = f; covered = g; shows_failure = h }
    go false y z f g h v = absurd (true≢false (sym v))
    go true false z f g h v = absurd (true≢false (sym v))
    go true true false f g h v = absurd (true≢false (sym v))

record Parts (d : Station) (routes : List Route) (b : Bound) : Type 0 where
  required : requirement_in_design d routes b.requirement ≡ true
  some : is_empty b.legs ≡ false
  legs : list_all (leg_in_design d routes) b.legs ≡ true
  meet : all_neighbors (contend_where_they_meet d routes) b.legs ≡ true
  train : is_train (last_leg b.legs).train (train_to d b.requirement) ≡ true
  origin : origin_in_design d routes b b.origin (visit_from d b.requirement) ≡ true
  next : list_all (λ l. all_neighbors (comes_before d routes) l.places) b.legs ≡ true
  used : list_all (λ l. is_used d routes l.train (last_of_leg l)) (legs_before_last b.legs) ≡ true
  reaches : reaches_target d routes b.requirement (visit_to d b.requirement) (last_leg b.legs) ≡ true
  begins : origin_covered d routes b b.origin (visit_from d b.requirement) ≡ true

parts : (d : Station) (routes : List Route) (b : Bound) → Holds d routes b → Parts d routes b
parts d routes b h =
    let six = and_left _ (is_consistent d routes b) h.in_design in
    let five = and_left _ (origin_in_design d routes b b.origin (visit_from d b.requirement)) six in
    let four = and_left _ (is_train (last_leg b.legs).train (train_to d b.requirement)) five in
    let few = and_left _ (all_neighbors (contend_where_they_meet d routes) b.legs) four in
    let short = and_left _ (are_few_choices d routes b.legs) few in
    let three = and_left _ (nat_le (places_of b.legs) most_places) short in
    let two = and_left _ (list_all (leg_in_design d routes) b.legs) three in
    let covers3 = and_left _ (origin_covered d routes b b.origin (visit_from d b.requirement)) h.covered in
    let covers2 = and_left _ (reaches_target d routes b.requirement (visit_to d b.requirement) (last_leg b.legs)) covers3 in
    record {
      required = and_left (requirement_in_design d routes b.requirement) (not (is_empty b.legs)) two;
      some = is_false (is_empty b.legs) (and_right (requirement_in_design d routes b.requirement) (not (is_empty b.legs)) two);
      legs = and_right _ (list_all (leg_in_design d routes) b.legs) three;
      meet = and_right _ (all_neighbors (contend_where_they_meet d routes) b.legs) four;
      train = and_right _ (is_train (last_leg b.legs).train (train_to d b.requirement)) five;
      origin = and_right _ (origin_in_design d routes b b.origin (visit_from d b.requirement)) six;
      next = and_left (list_all (λ l. all_neighbors (comes_before d routes) l.places) b.legs) _ covers2;
      used = and_right (list_all (λ l. all_neighbors (comes_before d routes) l.places) b.legs) _ covers2;
      reaches = and_right _ (reaches_target d routes b.requirement (visit_to d b.requirement) (last_leg b.legs)) covers3;
      begins = and_right _ (origin_covered d routes b b.origin (visit_from d b.requirement)) h.covered;
    }

-- ---- the theorem

module _ (d : Station) (adm : IsAdmitted d) (n : ℕ) (b : Bound) (plan : List (List Command)) (feasible : IsFeasible d n plan) (p : Premises d (routes_of d) b plan) (s : Parts d (routes_of d) b) (is : shows_failure d (routes_of d) b ≡ true) where
  legs_proper : (l : Leg) → In l b.legs → Proper d adm n b plan feasible p l
  legs_proper l m =
      let own = list_all_at (leg_in_design d (routes_of d)) b.legs l s.legs m in
      let two = and_left _ (list_all (place_in_design d (routes_of d)) l.places) own in
      let train = and_left (is_from 1 (length d.trains) l.train.0) (not (is_empty l.places)) two in
      record {
        member = m;
        train = (leb-true _ _ (and_left (nat_le 1 l.train.0) _ train), leb-true _ _ (and_right (nat_le 1 l.train.0) _ train));
        some = is_false (is_empty l.places) (and_right (is_from 1 (length d.trains) l.train.0) (not (is_empty l.places)) two);
        places = and_right _ (list_all (place_in_design d (routes_of d)) l.places) own;
        next = list_all_at (λ l. all_neighbors (comes_before d (routes_of d)) l.places) b.legs l s.next m;
      }

  last_in : (l : Leg) (ls : List Leg) → In (last_leg (l ∷ ls)) (l ∷ ls)
  last_in l [] = inl refl
  last_in l (m ∷ ls) = inr (last_in m ls)

  -- the chain of the legs, from its last ride
  chain_of : (P : (m : Leg) → Rides d (routes_of d) plan (ride_of (routes_of d) m) → Type 0) (l : Leg) (ls : List Leg) → b.legs ≡ l ∷ ls → Ride_on d adm n b plan feasible p P (last_leg b.legs) → Chain d adm n b plan feasible p P l ls
  chain_of P l ls e last = chain d adm n b plan feasible p P l ls (λ x m. legs_proper x (subst (In x) (sym e) m)) (subst (λ ls. list_all (λ l. is_used d (routes_of d) l.train (last_of_leg l)) (legs_before_last ls) ≡ true) e s.used)
      (subst (λ ls. all_neighbors (contend_where_they_meet d (routes_of d)) ls ≡ true) e s.meet) (λ test h. subst (λ ls. any_next test ls ≡ true) (sym e) h) (subst (λ ls. Ride_on d adm n b plan feasible p P (last_leg ls)) e last)

  last_proper : (l : Leg) (ls : List Leg) → b.legs ≡ l ∷ ls → Proper d adm n b plan feasible p (last_leg b.legs)
  last_proper l ls e = legs_proper (last_leg b.legs) (subst (λ ls. In (last_leg ls) ls) (sym e) (last_in l ls))

  -- a visit that is to come is made at the end of the chain
  to_visit : (v : VisitOf) (k : ℕ) (l : Leg) (ls : List Leg) → b.legs ≡ l ∷ ls → v.train ≡ train_to d b.requirement → is_visited d (routes_of d) v.train v.number (last_of_leg (last_leg b.legs)) ≡ true → Makes d adm n plan feasible v k
      → Chain d adm n b plan feasible p (Comes d adm n b plan feasible p v k) l ls
  to_visit v k l ls e train visited makes =
      let same : v.train ≡ (last_leg b.legs).train = train ∙ sym (same_train (last_leg b.legs).train (train_to d b.requirement) s.train) in
      chain_of (Comes d adm n b plan feasible p v k) l ls e (comes d adm n b plan feasible p (last_leg b.legs) (last_proper l ls e) v k same visited makes)

  -- ---- by the origin

  is_visit_to : (q : Requirement) (to : VisitOf) → visit_to d q ≡ Some to → to.train ≡ train_to d q
  is_visit_to (requirement.Within w) to e = let same : record { train = (within_of d w).to_train; number = (within_of d w).to_visit } ≡ to = cc in ap (λ (v : VisitOf). v.train) (sym same)
  is_visit_to (requirement.Order o) to e = let same : record { train = (order_of d o).first_train; number = (order_of d o).first_visit } ≡ to = cc in ap (λ (v : VisitOf). v.train) (sym same)
  is_visit_to (requirement.Visit t k) to e = let same : record { train = t; number = k } ≡ to = cc in ap (λ (v : VisitOf). v.train) (sym same)
  is_visit_to (requirement.Grant c) to e = cc

  visited_last : (q : Requirement) (to : VisitOf) (l : Leg) → visit_to d q ≡ Some to → reaches_target d (routes_of d) q (visit_to d q) l ≡ true → is_visited d (routes_of d) to.train to.number (last_of_leg l) ≡ true
  visited_last (requirement.Within w) to l e h = sym (ap (λ v. reaches_target d (routes_of d) (requirement.Within w) v l) e) ∙ h
  visited_last (requirement.Order o) to l e h = sym (ap (λ v. reaches_target d (routes_of d) (requirement.Order o) v l) e) ∙ h
  visited_last (requirement.Visit t k) to l e h = sym (ap (λ v. reaches_target d (routes_of d) (requirement.Visit t k) v l) e) ∙ h
  visited_last (requirement.Grant c) to l e h = cc

  to_last : (to : VisitOf) (k : ℕ) (l : Leg) (ls : List Leg) → b.legs ≡ l ∷ ls → visit_to d b.requirement ≡ Some to → Makes d adm n plan feasible to k → Chain d adm n b plan feasible p (Comes d adm n b plan feasible p to k) l ls
  to_last to k l ls e et makes = to_visit to k l ls e (is_visit_to b.requirement to et) (visited_last b.requirement to (last_leg b.legs) et s.reaches) makes

  -- the requirement has two visits where it has one to count from
  two_ends : (q : Requirement) (from : VisitOf) → visit_from d q ≡ Some from → (to : VisitOf) × (visit_to d q ≡ Some to)
  two_ends (requirement.Within w) from e = (_, refl)
  two_ends (requirement.Order o) from e = (_, refl)
  two_ends (requirement.Visit t k) from e = cc
  two_ends (requirement.Grant c) from e = cc

  some_leg : (ls : List Leg) → is_empty ls ≡ false → (l : Leg) × (ms : List Leg) × (ls ≡ l ∷ ms)
  some_leg [] h = absurd (true≢false h)
  some_leg (l ∷ ls) h = (l, ls, refl)

  -- the tick of the first visit by the cone
  by_cone : (k : ℕ) (from : VisitOf) (x : ℕ) → cone.in_design d (routes_of d) (cone_of b) ≡ true → cone_shows d (routes_of d) b k from ≡ true → Makes d adm n plan feasible from x → x ≡ k
  by_cone k from x fits shows makes =
      let c = cone_of b in
      let two = and_left (list_all (free_granted d (routes_of d) c) c.trains && list_all (λ t. holder_fits d (routes_of d) c t t.holder) c.trains) _ shows in
      let tick = and_right (list_all (free_granted d (routes_of d) c) c.trains && list_all (λ t. holder_fits d (routes_of d) c t t.holder) c.trains) _ shows in
      let rests : Rests d (routes_of d) n c plan = record {
        names = feasible.runnable.well_formed.named;
        formed = feasible.runnable.well_formed.formed;
        in_design = fits;
        granted = and_left (list_all (free_granted d (routes_of d) c) c.trains) _ two;
        holders = and_right (list_all (free_granted d (routes_of d) c) c.trains) _ two;
        denies = cone_denied d (routes_of d) b plan p;
      } in
      let h = (named c from.train).horizon in
      let same = visit_same d (routes_of d) n c plan rests h from.train from.number (le_refl h) in
      let soon = in_time d (routes_of d) n c plan rests from.train in
      let at_k : cone_visit d (routes_of d) c h from.train from.number ≡ Some k = made (cone_visit d (routes_of d) c h from.train from.number) tick in
      let later = visit_stays d (routes_of d) plan h (horizon d - h) from.train from.number k (same ∙ at_k) in
      let e : h + (horizon d - h) ≡ horizon d = omega arith in
      let one : Some k ≡ Some x = sym (subst (λ i. visit_tick d (routes_of d) (of_plan (routes_of d) plan) i from.train from.number ≡ Some k) e later) ∙ makes in
      cc
    where
      made : (o : Option ℕ) → is_made_at d (routes_of d) b k o ≡ true → o ≡ Some k
      made None h = cc
      made (Some a) h = ap Some (sym (eqb-true k a h))

  some_tick : (o : Option ℕ) → is_some o ≡ true → (y : ℕ) × (o ≡ Some y)
  some_tick None h = cc
  some_tick (Some y) h = (y, refl)

  -- a visit without one to count from is the requirement itself
  visit_there : (q : Requirement) (to : VisitOf) → visit_from d q ≡ None → visit_to d q ≡ Some to → requirement_in_design d (routes_of d) q ≡ true → is_visit d to.train to.number ≡ true
  visit_there (requirement.Within w) to ef et h = cc
  visit_there (requirement.Order o) to ef et h = cc
  visit_there (requirement.Visit t k) to ef et h = let same : record { train = t; number = k } ≡ to = cc in subst (λ (v : VisitOf). is_visit d v.train v.number ≡ true) same h
  visit_there (requirement.Grant c) to ef et h = cc

  -- so is a command that is to be granted
  granted_last : (q : Requirement) → visit_to d q ≡ None → reaches_target d (routes_of d) q (visit_to d q) (last_leg b.legs) ≡ true → Ride_on d adm n b plan feasible p (Goes d adm n b plan feasible p (horizon d)) (last_leg b.legs)
  granted_last (requirement.Within w) e h = cc
  granted_last (requirement.Order o) e h = cc
  granted_last (requirement.Visit t k) e h = cc
  granted_last (requirement.Grant c) e h = let l = some_leg b.legs s.some in goes d adm n b plan feasible p (last_leg b.legs) (last_proper l.0 l.1 l.2) c.route h

  clash : ⊥
  clash = at_legs (some_leg b.legs s.some)
    where
      at_legs : ((l : Leg) × (ms : List Leg) × (b.legs ≡ l ∷ ms)) → ⊥
      at_legs (l, ls, e) = by_origin b.origin refl (visit_from d b.requirement) refl (visit_to d b.requirement) refl s.origin s.begins (and_right (nat_le (stretches_of d (routes_of d) b.legs) most_looks) _ is)
        where
          -- so many ticks of each leg are known at the most
          most : ℕ
          most = followed d (routes_of d) b.legs

          ticks : Option VisitOf → ℕ
          ticks v = ticks_to d (routes_of d) most v b.legs

          -- the requirement with two visits
          two : (from to : VisitOf) → visit_from d b.requirement ≡ Some from → visit_to d b.requirement ≡ Some to → TwoVisits d adm n plan feasible b.requirement from to
          two from to ef et = two_visits d adm n plan feasible b.requirement from to s.required ef et

          after : (to : VisitOf) (y : ℕ) → visit_to d b.requirement ≡ Some to → Makes d adm n plan feasible to y → 1 + ticks (Some to) ≤ y
          after to y et makes = subst (λ legs. 1 + ticks_to d (routes_of d) most (Some to) legs ≤ y) (sym e) (visit_after d adm n b plan feasible p most to y l ls (to_last to y l ls e et makes))

          by_origin : (o : Origin) → b.origin ≡ o → (vf : Option VisitOf) → visit_from d b.requirement ≡ vf → (vt : Option VisitOf) → visit_to d b.requirement ≡ vt
              → origin_in_design d (routes_of d) b o vf ≡ true → origin_covered d (routes_of d) b o vf ≡ true → origin_shows d (routes_of d) b o vf vt ≡ true → ⊥
          by_origin origin.Visit eo (Some from) ef (Some to) et fits begins shows =
              let w = two from to ef et in
              let same : from.train ≡ l.train = sym (same_train (first_leg b.legs).train from.train fits) ∙ ap (λ ls. (first_leg ls).train) e in
              let starts : begins_with d (routes_of d) from (first_of_leg l) ≡ true = subst (λ ls. begins_with d (routes_of d) from (first_of_leg (first_leg ls)) ≡ true) e begins in
              let g = between d adm n b plan feasible p most from to w.first w.second l ls same starts w.made_first (to_last to w.second l ls e et w.made_second) (is_too_long d (routes_of d) b.requirement) (subst (λ ls. passes_between d (routes_of d) most from to ls (is_too_long d (routes_of d) b.requirement) ≡ true) e shows) in
              w.not_long g.0 g.1 g.2
          by_origin origin.FirstTick eo (Some from) ef vt et fits begins shows =
              let t = two_ends b.requirement from ef in
              let w = two from t.0 ef t.1 in
              let x = first_tick d adm n b plan feasible p from w.first (eqb-true from.number 1 fits) eo ef w.made_first in
              let y = after t.0 w.second t.1 w.made_second in
              let same : vt ≡ Some t.0 = sym et ∙ t.1 in
              w.not_long (ticks (Some t.0)) (subst (λ v. is_too_long d (routes_of d) b.requirement (ticks v) ≡ true) same shows) (omega arith)
          by_origin origin.Start eo None ef vt et fits begins shows = at_end vt et shows
            where
              at_end : (vt : Option VisitOf) → visit_to d b.requirement ≡ vt → nat_lt (horizon d) (1 + ticks vt) ≡ true → ⊥
              at_end (Some to) et late =
                  let g = some_tick (visit_tick d (routes_of d) (of_plan (routes_of d) plan) (horizon d) to.train to.number) ((met d adm n plan feasible).visited to.train to.number (visit_there b.requirement to ef et s.required)) in
                  let y = after to g.0 et g.1 in
                  let soon = (passed_at d adm n plan feasible to g.0 g.1).soon in
                  let l = leb-true _ _ late in
                  omega arith
              at_end None et late =
                  let c = chain_of (Goes d adm n b plan feasible p (horizon d)) l ls e (granted_last b.requirement et s.reaches) in
                  let y = subst (λ legs. 1 + ticks_to d (routes_of d) most None legs ≤ horizon d) (sym e) (grant_after d adm n b plan feasible p most (horizon d) l ls c) in
                  let l = leb-true _ _ late in
                  omega arith
          by_origin (origin.Cone k cone) eo (Some from) ef vt et fits begins shows =
              let t = two_ends b.requirement from ef in
              let w = two from t.0 ef t.1 in
              let x = by_cone k from w.first fits (and_left (cone_shows d (routes_of d) b k from) _ shows) w.made_first in
              let y = after t.0 w.second t.1 w.made_second in
              let same : vt ≡ Some t.0 = sym et ∙ t.1 in
              w.not_late (1 + ticks (Some t.0)) (subst (λ i. is_too_late d (routes_of d) b.requirement i (1 + ticks (Some t.0)) ≡ true) (sym x) (subst (λ v. is_too_late d (routes_of d) b.requirement k (1 + ticks v) ≡ true) same (and_right (cone_shows d (routes_of d) b k from) _ shows))) y
          by_origin origin.Visit eo (Some from) ef None et fits begins shows = absurd (true≢false (sym shows))
          by_origin origin.Visit eo None ef vt et fits begins shows = absurd (true≢false (sym shows))
          by_origin origin.FirstTick eo None ef vt et fits begins shows = absurd (true≢false (sym shows))
          by_origin origin.Start eo (Some from) ef vt et fits begins shows = absurd (true≢false (sym shows))
          by_origin (origin.Cone k cone) eo None ef vt et fits begins shows = absurd (true≢false (sym shows))

-- the clause of a valid certificate is true of every feasible plan
pub true_of_feasible : (d : Station) → IsAdmitted d → (n : ℕ) (b : Bound) (plan : List (List Command)) → is_valid_bound d (routes_of d) b ≡ true → IsFeasible d n plan → is_false_of plan (clause_of_bound d (routes_of d) b) ≡ false
true_of_feasible d adm n b plan valid feasible = false_unless (is_false_of plan (clause_of_bound d (routes_of d) b)) (λ denies.
    let h = holds_of_valid d (routes_of d) b valid in
    clash d adm n b plan feasible (premises d (routes_of d) b plan denies) (parts d (routes_of d) b h) h.shows_failure)
