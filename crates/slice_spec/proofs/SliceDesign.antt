-- A slice is of the design, and so it is valid.
use Rattle.std.proofs.Common.{◌≡◌, ℕ, zero, suc, ◌+◌, ◌-◌, ◌≤◌, ◌<◌, inl, inr, Bool, true, false, not, ◌&&◌, ◌||◌, if◌then◌else◌, nat_le, nat_lt, ◌==◌, List, [], ◌∷◌, map, filter, length, take, slice_get, Option, None, Some, refl, sym, ap, subst, ◌∙◌, arith, leb-true, leb-false, le-leb, eqb-true, true≢false, length-take}
use Rattle.std.specs.List.{list_all}
use Rattle.rail_base.specs.declared.station.Station.{Station}
use Rattle.rail_base.specs.declared.station.TrainNo.{TrainNo}
use Rattle.rail_base.specs.declared.station.NodeNo.{NodeNo}
use Rattle.rail_base.specs.declared.route.Route.{Route}
use Rattle.rail_base.specs.declared.route.RouteNo.{RouteNo}
use Rattle.rail_base.specs.declared.route.Start.{Start}
use Rattle.rail_base.specs.declared.route.Start.TheVariants as start
use Rattle.rail_base.specs.declared.plan.Command.{Command}
use Rattle.rail_base.specs.declared.plan.Violation.{Violation}
use Rattle.rail_base.specs.declared.plan.Violation.TheVariants as violation
use Rattle.cone_spec.specs.declared.ConeTrain.{ConeTrain}
use Rattle.cone_spec.specs.declared.Cone.{Cone}
use Rattle.rail_base.specs.Numbering.{before_first}
use Rattle.rail_spec.specs.Plans.{route_at, is_train, is_route, is_start, goes_on, starts_in, begins_in, is_path, share, shared, commands, path, path_routes, preceding, precedes, one_each, has_command}
use Rattle.rail_base.specs.Members.{all_pairs, all_neighbors}
use Rattle.rail_base.specs.Stations.{first_visit, trains, train_of, horizon}
use Rattle.rail_spec.specs.Feasible.{is_of}
use Rattle.rail_spec.specs.Requirements.{is_certain}
use Rattle.rail_base.proofs.Members.{In, and_left, and_right, and_both, list_all_at, list_any_from, is_false}
use Rattle.rail_spec.specs.Dispatches.{is_granted, has_released, state_of, pasts_at, state_at, of_plan}
use Rattle.cone_spec.specs.Cones.{named, is_named}
use Rattle.cone_spec.specs.Validity.{from_boundary, is_walk, train_in_design, holder_in_path, pair_in_design, violation_in_design, is_pair_before, in_design, is_valid_cone}
use Rattle.cone_spec.specs.Clauses.{is_path_violation, clause_of_cone, is_false_of}
use Rattle.rail_base.specs.Admission.{is_from}
use Rattle.slice_spec.specs.Holders.{count_at, next_at, holder_for, holder_at, is_the, is_holder, reaches}
use Rattle.slice_spec.specs.Slices.{past_last, is_next, slice_train, is_slice_pair, slice_pairs, slice_with, names}
use Rattle.cone_spec.proofs.Releasing.{released_granted}
use Rattle.rail_laws.proofs.Running.{first_is}
use Rattle.cone_spec.proofs.Agreement.{at_place}
use Rattle.cone_spec.proofs.Saying.{has_in, in_trains, is_command_same, is_command_self}
use Rattle.cone_spec.proofs.Naming.{in_has_route}
use Rattle.cone_spec.proofs.Fitting.{in_take}
use Rattle.slice_spec.proofs.Holders.{latest_some, shares_one}
use Rattle.slice_spec.proofs.Slicing.{Failed, within_last, named_slice, enough, count_within, pair_listed, listed_precedes, command_in_design, cleared_by}
use Rattle.slice_spec.proofs.SliceHeld.{of_trains, get_take, next_named, all_granted, all_holders_fit}
use Rattle.slice_spec.proofs.SliceShown.{names_trains, slice_shown, reach_horizon, reaches_it}
use Rattle.slice_spec.proofs.SliceDenied.{slice_denied}
use Rattle.cone_spec.proofs.Sorted.{pairs_neighbors, all_pairs_filter, all_pairs_map, trains_sorted, pairs_sorted}
use Rattle.slice_spec.proofs.Prefixes.{pairs_take, neighbors_take, map-take, in_longer_take}
use Rattle.rail_base.proofs.Lists.{list_all_from, in_filter_back, length-map}
use Rattle.rail_laws.proofs.Standing.{in_path, at_in}
use Rattle.rail_laws.proofs.Given.{command_in_path, same_route}
use Rattle.slice_spec.proofs.Valid.{valid_of}

-- a member that passes is not past the last that does
past_last_in : (test : RouteNo → Bool) (xs : List RouteNo) (x : RouteNo) → In x xs → test x ≡ true → In x (take (past_last test xs) xs)
past_last_in test [] x m e = absurd m
past_last_in test (y ∷ ys) x m e = go (nat_lt 0 (past_last test ys)) refl (test y) refl m (λ k. past_last_in test ys x k e)
  where
    none : (n : ℕ) → nat_lt 0 n ≡ false → In x (take n ys) → ⊥
    none zero f k = k
    none (suc n) f k = absurd (true≢false (sym (le-leb 1 (suc n) (omega arith)) ∙ f))

    go : (a : Bool) → nat_lt 0 (past_last test ys) ≡ a → (b : Bool) → test y ≡ b → In x (y ∷ ys) → (In x ys → In x (take (past_last test ys) ys)) → In x (take (if a then suc (past_last test ys) else if b then 1 else 0) (y ∷ ys))
    go true ea b eb (inl k) later = inl k
    go true ea b eb (inr k) later = inr (later k)
    go false ea true eb (inl k) later = inl k
    go false ea b eb (inr k) later = absurd (none (past_last test ys) ea (later k))
    go false ea false eb (inl k) later = absurd (true≢false (sym e ∙ ap test (sym k) ∙ eb))

-- what a violation counts is there: its entry, its visit, or the first command that isn't granted by the last tick
abbrev pub counts : Station → List Route → List (List Command) → ℕ → Violation → Bool
counts d routes plan last (violation.Path t j) = false
counts d routes plan last (violation.Within w) = is_from 1 (length d.withins) w
counts d routes plan last (violation.Order o) = is_from 1 (length d.orders) o
counts d routes plan last (violation.Grant t j) = is_from 1 (length (path plan t)) j && nat_le j (count_at d routes plan last t + 1)
counts d routes plan last (violation.Visit t j) = is_from 1 (length (train_of d t).visits) j

module _ (d : Station) (routes : List Route) (n : ℕ) (plan : List (List Command)) (last : ℕ) (v : Violation) (h upto : TrainNo → ℕ) (failed : Failed d routes n plan last v h upto) where
  S : Cone
  S = slice_with d routes plan last h upto v

  -- ---- the trains

  record Formed (t : TrainNo) : Type 0 where
    begins : begins_in (first_visit (train_of d t)) (path_routes routes plan t) ≡ true
    goes : all_neighbors (λ r q. goes_on r.finish q.start) (path_routes routes plan t) ≡ true
    starts : all_pairs (λ r q. not (is_start r.start q.start)) (path_routes routes plan t) ≡ true

  formed_of : (t : TrainNo) → 1 ≤ t.0 → t.0 ≤ length d.trains → Formed t
  formed_of t a b =
      let h = list_all_at (λ t. is_path (train_of d t) (path_routes routes plan t)) (trains d) t (and_right (nat_le (length plan) n && list_all one_each plan) _ failed.formed) (in_trains d t a b) in
      let xyz = and_left (begins_in (first_visit (train_of d t)) (path_routes routes plan t) && all_neighbors (λ r q. goes_on r.finish q.start) (path_routes routes plan t) && all_pairs (λ r q. not (is_start r.start q.start)) (path_routes routes plan t)) _ h in
      let xy = and_left (begins_in (first_visit (train_of d t)) (path_routes routes plan t) && all_neighbors (λ r q. goes_on r.finish q.start) (path_routes routes plan t)) _ xyz in
      record {
        begins = and_left (begins_in (first_visit (train_of d t)) (path_routes routes plan t)) _ xy;
        goes = and_right (begins_in (first_visit (train_of d t)) (path_routes routes plan t)) _ xy;
        starts = and_right (begins_in (first_visit (train_of d t)) (path_routes routes plan t) && all_neighbors (λ r q. goes_on r.finish q.start) (path_routes routes plan t)) _ xyz;
      }

  begins_at_boundary : (set : List NodeNo) (i : ℕ) (rs : List Route) → 1 ≤ i → 1 ≤ length rs → begins_in set rs ≡ true → from_boundary (take i rs) ≡ true
  begins_at_boundary set zero rs l m b = absurd (omega arith)
  begins_at_boundary set (suc i) [] l m b = absurd (omega arith)
  begins_at_boundary set (suc i) (r ∷ rs) l m b = at r.start refl b
    where
      at : (s : Start) → r.start ≡ s → starts_in set r.start ≡ true → from_boundary (r ∷ take i rs) ≡ true
      at (start.Boundary x) e k = ap (λ s. from_boundary (record r { start = s } ∷ take i rs)) e
      at (start.Signal x) e k = absurd (true≢false (sym k ∙ ap (starts_in set) e))

  route_numbers : (c : Command) → In c (commands plan) → is_from 1 (length routes) c.route.0 ≡ true
  route_numbers c m =
      let o = list_all_at (is_of d routes) (commands plan) c failed.names m in
      and_both _ _ (and_right (nat_le 1 c.train.0 && nat_le c.train.0 (length d.trains)) _ (and_left (nat_le 1 c.train.0 && nat_le c.train.0 (length d.trains) && nat_le 1 c.route.0) _ o)) (and_right (nat_le 1 c.train.0 && nat_le c.train.0 (length d.trains) && nat_le 1 c.route.0) _ o)

  one_train : (t : TrainNo) → 1 ≤ t.0 → t.0 ≤ length d.trains → names upto t ≡ true → train_in_design d routes (slice_with d routes plan last h upto v) (slice_train d routes plan last h upto t) ≡ true
  one_train t a b g =
      and_both _ _ (and_both _ _ (and_both _ _ (and_both _ _ (and_both _ _ (le-leb 1 t.0 a) (le-leb t.0 (length d.trains) b)) routes_in) soon) few) way
    where
      routes_in : list_all (λ r. is_from 1 (length routes) r.0) (take (upto t) (path plan t)) ≡ true
      routes_in = list_all_from (λ (r : RouteNo). is_from 1 (length routes) r.0) (take (upto t) (path plan t)) (λ r m. route_numbers (record { train = t; route = r }) (in_path t plan r (in_take (upto t) (path plan t) r m)))

      soon : nat_le (h t) (horizon d) ≡ true
      soon = let x = within_last d routes n plan last v h upto failed t a b in let y = failed.in_time in le-leb (h t) (horizon d) (omega arith)

      few : nat_le (count_at d routes plan (h t) t) (length (take (upto t) (path plan t))) ≡ true
      few = let l = length-take (upto t) (path plan t) in let x = enough d routes n plan last v h upto failed t in let y = count_within d routes n plan last v h upto failed (h t) t in
          le-leb (count_at d routes plan (h t) t) (length (take (upto t) (path plan t))) (omega arith)

      f : Formed t
      f = formed_of t a b

      way : is_walk (map (route_at routes) (take (upto t) (path plan t))) ≡ true
      way = subst (λ rs. is_walk rs ≡ true) (sym (map-take (route_at routes) (upto t) (path plan t)))
          (and_both _ _ (and_both _ _ (begins_at_boundary (first_visit (train_of d t)) (upto t) (path_routes routes plan t) (leb-true 1 (upto t) g) (let x = failed.given t a b in let l = length-map (route_at routes) (path plan t) in omega arith) f.begins)
          (neighbors_take (λ r q. goes_on r.finish q.start) (upto t) (path_routes routes plan t) f.goes))
          (pairs_take (λ r q. not (is_start r.start q.start)) (upto t) (path_routes routes plan t) f.starts))

  all_trains : list_all (train_in_design d routes (slice_with d routes plan last h upto v)) (slice_with d routes plan last h upto v).trains ≡ true
  all_trains = list_all_from (train_in_design d routes (slice_with d routes plan last h upto v)) (slice_with d routes plan last h upto v).trains (λ c m. go c (of_trains d routes n plan last v h upto failed c m))
    where
      go : (c : ConeTrain) → (t : TrainNo) × (1 ≤ t.0) × (t.0 ≤ length d.trains) × (names upto t ≡ true) × (slice_train d routes plan last h upto t ≡ c) → train_in_design d routes (slice_with d routes plan last h upto v) c ≡ true
      go c (t, a, b, g, e) = subst (λ c. train_in_design d routes (slice_with d routes plan last h upto v) c ≡ true) e (one_train t a b g)

  in_order : all_neighbors (λ (a b : ConeTrain). nat_lt a.train.0 b.train.0) (slice_with d routes plan last h upto v).trains ≡ true
  in_order = pairs_neighbors (λ (a b : ConeTrain). nat_lt a.train.0 b.train.0) (slice_with d routes plan last h upto v).trains
      (all_pairs_map (λ (a b : ConeTrain). nat_lt a.train.0 b.train.0) (slice_train d routes plan last h upto) (filter (names upto) (trains d))
      (all_pairs_filter (λ (t u : TrainNo). nat_lt t.0 u.0) (names upto) (trains d) (trains_sorted d)))

  -- ---- the commands that it names

  -- a command among those that the slice names of its train
  named_by : (c : Command) → 1 ≤ c.train.0 → c.train.0 ≤ length d.trains → In c.route (take (upto c.train) (path plan c.train)) → is_named (slice_with d routes plan last h upto v) c ≡ true
  named_by c a b m = in_has_route (named (slice_with d routes plan last h upto v) c.train).path c.route (subst (λ (x : ConeTrain). In c.route x.path) (sym (named_slice d routes n plan last v h upto failed c.train a b)) m)

  granted_named : (c : Command) → 1 ≤ c.train.0 → c.train.0 ≤ length d.trains → is_granted d routes (of_plan routes plan) (state_at d routes (of_plan routes plan) (h c.train)) c ≡ true → is_named (slice_with d routes plan last h upto v) c ≡ true
  granted_named c a b g = go (at_place (path plan c.train) (length (before_first (λ x. is_route x c.route) (path plan c.train))) (omega (arith, l, m, w)))
    where
      l : length (map (route_at routes) (before_first (λ x. is_route x c.route) (path plan c.train))) < count_at d routes plan (h c.train) c.train
      l = leb-true _ _ g

      m : length (map (route_at routes) (before_first (λ x. is_route x c.route) (path plan c.train))) ≡ length (before_first (λ x. is_route x c.route) (path plan c.train))
      m = length-map (route_at routes) (before_first (λ x. is_route x c.route) (path plan c.train))

      w : count_at d routes plan (h c.train) c.train ≤ length (path plan c.train)
      w = count_within d routes n plan last v h upto failed (h c.train) c.train

      go : (r : RouteNo) × (slice_get (path plan c.train) (length (before_first (λ x. is_route x c.route) (path plan c.train))) ≡ Some r) × In r (path plan c.train) → is_named (slice_with d routes plan last h upto v) c ≡ true
      go (r, e, _) =
          let same = same_route r c.route (first_is d routes (of_plan routes plan) c.route (path plan c.train) r e) in
          let x = enough d routes n plan last v h upto failed c.train in
          named_by c a b (subst (λ q. In q (take (upto c.train) (path plan c.train))) same
          (at_in (take (upto c.train) (path plan c.train)) (length (before_first (λ x. is_route x c.route) (path plan c.train))) r (get_take (length (before_first (λ x. is_route x c.route) (path plan c.train))) (upto c.train) (path plan c.train) (omega (arith, l, m)) ∙ e)).0)

  -- a holder comes from the commands that precede, where the train is followed
  record HolderOf (t : TrainNo) (e : Command) : Type 0 where
    followed : 1 ≤ h t
    next : RouteNo
    is_next_one : next_at d routes plan (h t) t ≡ Some next
    member : In e (preceding routes plan (record { train = t; route = next }))

  holder_of : (t : TrainNo) (e : Command) → holder_at d routes plan last h t ≡ Some e → HolderOf t e
  holder_of t e k = go (nat_le 1 (h t) && (count_at d routes plan (h t - 1) t == count_at d routes plan (h t) t)) refl k
    where
      go : (x : Bool) → (nat_le 1 (h t) && (count_at d routes plan (h t - 1) t == count_at d routes plan (h t) t)) ≡ x → (if x then holder_for d routes plan last t (next_at d routes plan (h t) t) else None) ≡ Some e → HolderOf t e
      go false x s = cc
      go true x s = at (next_at d routes plan (h t) t) refl s
        where
          at : (o : Option RouteNo) → next_at d routes plan (h t) t ≡ o → holder_for d routes plan last t o ≡ Some e → HolderOf t e
          at None y s = cc
          at (Some r) y s = record { followed = leb-true 1 (h t) (and_left (nat_le 1 (h t)) _ x); next = r; is_next_one = y; member = (latest_some d routes plan last (record { train = t; route = r }) (preceding routes plan (record { train = t; route = r })) e s).member }

  holder_named : (t : TrainNo) (e : Command) → 1 ≤ t.0 → t.0 ≤ length d.trains → holder_at d routes plan last h t ≡ Some e → is_named (slice_with d routes plan last h upto v) e ≡ true
  holder_named t e a b k =
      let o = holder_of t e k in
      let m = (in_filter_back (λ e. precedes routes plan e (record { train = t; route = o.next })) (commands plan) e o.member).0 in
      let in_d = command_in_design d routes n plan last v h upto failed e m in
      let holds : is_holder d routes plan last h e ≡ true = list_any_from (λ t. is_the e (holder_at d routes plan last h t)) (trains d) t (in_trains d t a b) (ap (is_the e) k ∙ is_command_self e) in
      named_by e in_d.0 in_d.1 (in_longer_take (past_last (λ r. is_holder d routes plan last h (record { train = e.train; route = r })) (path plan e.train)) (upto e.train) (path plan e.train) e.route (failed.holders_in e.train)
      (past_last_in (λ r. is_holder d routes plan last h (record { train = e.train; route = r })) (path plan e.train) e.route (command_in_path plan e m) holds))

  holders_in : list_all (λ c. holder_in_path d routes (slice_with d routes plan last h upto v) c.holder) (slice_with d routes plan last h upto v).trains ≡ true
  holders_in = list_all_from (λ (c : ConeTrain). holder_in_path d routes (slice_with d routes plan last h upto v) c.holder) (slice_with d routes plan last h upto v).trains (λ c m. go c (of_trains d routes n plan last v h upto failed c m))
    where
      one : (t : TrainNo) → 1 ≤ t.0 → t.0 ≤ length d.trains → (o : Option Command) → holder_at d routes plan last h t ≡ o → holder_in_path d routes (slice_with d routes plan last h upto v) o ≡ true
      one t a b None k = refl
      one t a b (Some e) k = holder_named t e a b k

      go : (c : ConeTrain) → (t : TrainNo) × (1 ≤ t.0) × (t.0 ≤ length d.trains) × (names upto t ≡ true) × (slice_train d routes plan last h upto t ≡ c) → holder_in_path d routes (slice_with d routes plan last h upto v) c.holder ≡ true
      go c (t, a, b, g, e) = subst (λ (c : ConeTrain). holder_in_path d routes (slice_with d routes plan last h upto v) c.holder ≡ true) e (one t a b (holder_at d routes plan last h t) refl)

  -- ---- the pairs

  one_pair : (e c : Command) → is_slice_pair d routes plan last h e c ≡ true → pair_in_design d routes (slice_with d routes plan last h upto v) (e, c) ≡ true
  one_pair e c l = and_both _ _ (and_both _ _ both.0 both.1) (and_both _ _ apart sharing)
    where
      before : In e (commands plan) × (precedes routes plan e c ≡ true)
      before = in_filter_back (λ e. precedes routes plan e c) (commands plan) e (listed_precedes d routes n plan last v h upto failed e c l)

      c_in : In c (commands plan)
      c_in = has_in plan c (and_right (has_command plan e) _ (and_left (has_command plan e && has_command plan c) _ (and_left (has_command plan e && has_command plan c && precedes routes plan e c) _ l)))

      apart : not (is_train e.train c.train) ≡ true
      apart = and_left (not (is_train e.train c.train)) _ (and_left (not (is_train e.train c.train) && share (route_at routes e.route) (route_at routes c.route)) _ before.1)

      sharing : share (route_at routes e.route) (route_at routes c.route) ≡ true
      sharing = and_right (not (is_train e.train c.train)) _ (and_left (not (is_train e.train c.train) && share (route_at routes e.route) (route_at routes c.route)) _ before.1)

      ed : (1 ≤ e.train.0) × (e.train.0 ≤ length d.trains)
      ed = command_in_design d routes n plan last v h upto failed e before.0

      cd : (1 ≤ c.train.0) × (c.train.0 ≤ length d.trains)
      cd = command_in_design d routes n plan last v h upto failed c c_in

      -- c is granted: then e has released, and so it was granted
      granted : is_granted d routes (of_plan routes plan) (state_at d routes (of_plan routes plan) (h c.train)) c ≡ true → (is_named (slice_with d routes plan last h upto v) e ≡ true) × (is_named (slice_with d routes plan last h upto v) c ≡ true)
      granted g =
          let i = listed_precedes d routes n plan last v h upto failed e c l in
          let r = cleared_by d routes n plan last v h upto failed c e c_in i g in
          let z = shares_one d routes plan last c e i in
          let one = list_all_at (has_released d routes (of_plan routes plan) (pasts_at d routes (of_plan routes plan) (h e.train)) e) (shared (route_at routes e.route) (route_at routes c.route)) z.0 r z.1 in
          (granted_named e ed.0 ed.1 (le-leb _ _ (released_granted d routes (of_plan routes plan) (h e.train) e z.0 one)), granted_named c cd.0 cd.1 g)

      -- c is held up by e
      held_up : (o : Option Command) → holder_at d routes plan last h c.train ≡ o → is_the e o ≡ true → (m : Option RouteNo) → next_at d routes plan (h c.train) c.train ≡ m → is_next c m ≡ true → (is_named (slice_with d routes plan last h upto v) e ≡ true) × (is_named (slice_with d routes plan last h upto v) c ≡ true)
      held_up None ko the m km nx = absurd (true≢false (sym the))
      held_up (Some f) ko the None km nx = absurd (true≢false (sym nx))
      held_up (Some f) ko the (Some r) km nx =
          let same = is_command_same f e the in
          let route_same = same_route r c.route nx in
          let holder = holder_of c.train f ko in
          let more = next_named d routes n plan last v h upto failed c.train cd.0 cd.1 holder.followed (at_in (path plan c.train) (count_at d routes plan (h c.train) c.train) r km).1 in
          let place = get_take (count_at d routes plan (h c.train) c.train) (upto c.train) (path plan c.train) (omega arith) ∙ km in (
            subst (λ x. is_named (slice_with d routes plan last h upto v) x ≡ true) same (holder_named c.train f cd.0 cd.1 ko),
            named_by c cd.0 cd.1 (subst (λ q. In q (take (upto c.train) (path plan c.train))) route_same (at_in (take (upto c.train) (path plan c.train)) (count_at d routes plan (h c.train) c.train) r place).0),
          )

      both : (is_named (slice_with d routes plan last h upto v) e ≡ true) × (is_named (slice_with d routes plan last h upto v) c ≡ true)
      both = go (is_granted d routes (of_plan routes plan) (state_at d routes (of_plan routes plan) (h c.train)) c) refl (and_right (has_command plan e && has_command plan c && precedes routes plan e c) _ l)
        where
          go : (x : Bool) → is_granted d routes (of_plan routes plan) (state_at d routes (of_plan routes plan) (h c.train)) c ≡ x → (x || is_next c (next_at d routes plan (h c.train) c.train) && is_the e (holder_at d routes plan last h c.train)) ≡ true → (is_named (slice_with d routes plan last h upto v) e ≡ true) × (is_named (slice_with d routes plan last h upto v) c ≡ true)
          go true g k = granted g
          go false g k = held_up (holder_at d routes plan last h c.train) refl (and_right (is_next c (next_at d routes plan (h c.train) c.train)) _ k) (next_at d routes plan (h c.train) c.train) refl (and_left (is_next c (next_at d routes plan (h c.train) c.train)) _ k)

  all_listed : list_all (pair_in_design d routes (slice_with d routes plan last h upto v)) (slice_pairs d routes plan last h) ≡ true
  all_listed = list_all_from (pair_in_design d routes (slice_with d routes plan last h upto v)) (slice_pairs d routes plan last h) (λ p m. one_pair p.0 p.1 (pair_listed d routes n plan last v h upto failed p m))

  -- ---- the violation

  numbers_in : (w : Violation) → v ≡ w → 1 ≤ horizon d → names_trains d w ≡ true → counts d routes plan last w ≡ true → reaches d routes plan last h w ≡ true → is_certain d routes plan last w ≡ true → violation_in_design d routes (slice_with d routes plan last h upto v) w ≡ true
  numbers_in (violation.Path t j) e some i k r c = absurd (true≢false (sym k))
  numbers_in (violation.Within w) e some i k r c = k
  numbers_in (violation.Order o) e some i k r c = k
  numbers_in (violation.Visit t j) e some i k r c = and_both _ _ i k
  numbers_in (violation.Grant t j) e some i k r c =
      let a = leb-true 1 t.0 (and_left (nat_le 1 t.0) _ i) in
      let b = leb-true t.0 (length d.trains) (and_right (nat_le 1 t.0) _ i) in
      let j_in = and_left (is_from 1 (length (path plan t)) j) _ k in
      let low = leb-true 1 j (and_left (nat_le 1 j) _ j_in) in
      let high = leb-true j (length (path plan t)) (and_right (nat_le 1 j) _ j_in) in
      let first = leb-true j (count_at d routes plan last t + 1) (and_right (is_from 1 (length (path plan t)) j) _ k) in
      let at_end : last ≡ horizon d = eqb-true _ _ (and_left (last == horizon d) _ c) in
      let full = reach_horizon d routes n plan last v h upto failed t i r in
      let same : count_at d routes plan (h t) t ≡ count_at d routes plan last t = ap (λ x. count_at d routes plan x t) (full ∙ sym at_end) in
      let waits = leb-false j (state_of (state_at d routes (of_plan routes plan) last) t).granted (is_false _ (and_right (last == horizon d) _ c)) in
      let shift : count_at d routes plan last t ≡ (state_of (state_at d routes (of_plan routes plan) last) t).granted = refl in
      let more = next_named d routes n plan last v h upto failed t a b (omega arith) (omega arith) in
      let l = length-take (upto t) (path plan t) in
      let p : length (named (slice_with d routes plan last h upto v) t).path ≡ length (take (upto t) (path plan t)) = ap (λ (x : ConeTrain). length x.path) (named_slice d routes n plan last v h upto failed t a b) in
      and_both _ _ i (and_both _ _ (le-leb 1 j low) (le-leb j (length (named (slice_with d routes plan last h upto v) t).path) (omega arith)))

  pub slice_in_design : 1 ≤ horizon d → names_trains d v ≡ true → counts d routes plan last v ≡ true → is_certain d routes plan last v ≡ true → in_design d routes (slice_with d routes plan last h upto v) ≡ true
  slice_in_design some i k c = and_both _ _ (and_both _ _ (and_both _ _ (and_both _ _ (and_both _ _ all_trains in_order) holders_in) all_listed)
      (pairs_neighbors is_pair_before (slice_pairs d routes plan last h) (pairs_sorted d routes (is_slice_pair d routes plan last h))))
      (numbers_in v refl some i k (reaches_it d routes n plan last v h upto failed) c)

  not_path : counts d routes plan last v ≡ true → is_path_violation d routes (slice_with d routes plan last h upto v) v ≡ false
  not_path k = go v k
    where
      go : (w : Violation) → counts d routes plan last w ≡ true → is_path_violation d routes (slice_with d routes plan last h upto v) w ≡ false
      go (violation.Path t j) e = absurd (true≢false (sym e))
      go (violation.Within w) e = refl
      go (violation.Order o) e = refl
      go (violation.Grant t j) e = refl
      go (violation.Visit t j) e = refl

  -- the slice of a failed plan is valid
  pub slice_valid : 1 ≤ horizon d → names_trains d v ≡ true → counts d routes plan last v ≡ true → is_certain d routes plan last v ≡ true → is_valid_cone d routes (slice_with d routes plan last h upto v) ≡ true
  slice_valid some i k c = valid_of d routes (slice_with d routes plan last h upto v) (slice_in_design some i k c) (all_granted d routes n plan last v h upto failed) (all_holders_fit d routes n plan last v h upto failed) (slice_shown d routes n plan last v h upto failed (not_path k) i c)

  -- and its clause is false of the plan
  pub slice_false : counts d routes plan last v ≡ true → is_false_of plan (clause_of_cone d routes (slice_with d routes plan last h upto v)) ≡ true
  slice_false k = slice_denied d routes n plan last v h upto failed (not_path k)
