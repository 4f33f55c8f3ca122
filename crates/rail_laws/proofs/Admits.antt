-- What the motion and the exclusion of trains take for granted holds of every runnable plan of an admitted design.
use Rattle.std.proofs.Common.{◌≡◌, ℕ, zero, suc, ◌≤◌, ◌<◌, ◌⊎◌, inl, inr, Bool, true, false, cond, not, ◌&&◌, ◌||◌, ◌==◌, nat_le, List, [], ◌∷◌, map, filter, flat_map, take, length, sum_by, slice_get, Some, ℤ, pos, nat_abs, refl, sym, ap, subst, ◌∙◌, arith, leb-true, eq-eqb, eqb-true, true≢false}
use Rattle.std.specs.List.{list_any, list_all}
use Rattle.std.proofs.lemmas.List.Sums.{sum_by-append, sum_by-cons}
use Rattle.rail_base.specs.declared.station.Station.{Station}
use Rattle.rail_base.specs.declared.station.EdgeNo.{EdgeNo}
use Rattle.rail_base.specs.declared.station.NodeNo.{NodeNo}
use Rattle.rail_base.specs.declared.station.SectionNo.{SectionNo}
use Rattle.rail_base.specs.declared.station.TrainNo.{TrainNo}
use Rattle.rail_base.specs.declared.route.Route.{Route}
use Rattle.rail_base.specs.declared.route.RouteNo.{RouteNo}
use Rattle.rail_base.specs.declared.route.Start.{Start}
use Rattle.rail_base.specs.declared.route.Start.TheVariants as start
use Rattle.rail_base.specs.declared.route.Finish.{Finish}
use Rattle.rail_base.specs.declared.route.Finish.TheVariants as finish
use Rattle.rail_base.specs.declared.plan.Command.{Command}
use Rattle.rail_base.specs.Numbering.{entry, one_to, before_first}
use Rattle.rail_base.specs.Members.{In, Pairs, Differ, all_pairs, all_neighbors}
use Rattle.rail_spec.specs.Track.{edge_ends, routes_of}
use Rattle.rail_base.specs.Stations.{length_of, section_of, trains, train_of, first_visit, IsTrain}
use Rattle.rail_spec.specs.Plans.{is_well_formed, is_executable, no_route, route_at, goes_over, release_offset, length_mm, exits, is_route, is_start, goes_on, end_at_one_signal, begins_in, is_path, one_each, commands, path, path_routes}
use Rattle.rail_laws.specs.Elementary.{IsAsItsEdges}
use Rattle.rail_laws.specs.Standing.{NodesRise}
use Rattle.rail_base.specs.Admitted.{IsAdmitted}
use Rattle.rail_spec.specs.Feasible.{names_only, IsWellFormed}
use Rattle.rail_spec.specs.Feasible as feasible
use Rattle.rail_spec.specs.Safety.{Clash}
use Rattle.rail_base.proofs.Members.{and_left, and_right, list_all_at, list_any_from, in_filter}
use Rattle.rail_base.proofs.Lists.{in_map, in_map_back, in_count, in_filter_back, pairs_map}
use Rattle.rail_laws.proofs.AsEdges.{told, edge_of_end, fold_above, fold_reached}
use Rattle.rail_laws.proofs.Visiting.{in_take}
use Rattle.rail_laws.proofs.UnderWay.{IsSound}
use Rattle.rail_laws.proofs.Standing.{HasSections, in_path, no_clash}

first_two : (a b c e : Bool) → (a && b && c && e) ≡ true → (a && b) ≡ true
first_two true true c e h = refl
first_two true false c e h = h
first_two false b c e h = h

-- ---- entries

pub entry_is : {X : Type 0} (P : X → Type 0) (other : X) (xs : List X) (n : ℕ) → P other → ((x : X) → In x xs → P x) → P (entry other xs n)
entry_is P other xs zero none each = none
entry_is P other [] (suc i) none each = none
entry_is P other (x ∷ xs) (suc zero) none each = each x (inl refl)
entry_is P other (x ∷ xs) (suc (suc i)) none each = entry_is P other xs (suc i) none (λ y m. each y (inr m))

-- ---- paths

exit_ends : (rs : List Route) (g : ℕ) → all_neighbors (λ r q. goes_on r.finish q.start) rs ≡ true → list_any exits (take g rs) ≡ true → length rs ≤ g
exit_ends [] g h e = omega arith
exit_ends (r ∷ rs) zero h e = absurd (true≢false (sym e))
exit_ends (r ∷ []) (suc g) h e = omega arith
exit_ends (r ∷ q ∷ rs) (suc g) h e =
    let stay = stays r.finish (and_left (goes_on r.finish q.start) (all_neighbors (λ r q. goes_on r.finish q.start) (q ∷ rs)) h) in
    let further : list_any exits (take g (q ∷ rs)) ≡ true = subst (λ b. (b || list_any exits (take g (q ∷ rs))) ≡ true) stay e in
    let l = exit_ends (q ∷ rs) g (and_right (goes_on r.finish q.start) _ h) further in omega arith
  where
    stays : (f : Finish) → goes_on f q.start ≡ true → exits (record r { finish = f }) ≡ false
    stays (finish.Exit n) k = absurd (true≢false (sym k))
    stays (finish.Signal s) k = refl
    stays (finish.DeadEnd n) k = refl

is_start_refl : (s : Start) → is_start s s ≡ true
is_start_refl (start.Boundary n) = eq-eqb n.0 n.0 refl
is_start_refl (start.Signal s) = eq-eqb s.0 s.0 refl

-- routes with different starts are different
starts_apart : (routes : List Route) (ps : List RouteNo) → all_pairs (λ r q. not (is_start r.start q.start)) (map (route_at routes) ps) ≡ true → Differ ps
starts_apart routes [] h = tt
starts_apart routes (p ∷ ps) h = (λ q m same. apart q m same, starts_apart routes ps (and_right (list_all (λ q. not (is_start (route_at routes p).start q.start)) (map (route_at routes) ps)) _ h))
  where
    apart : (q : RouteNo) → In q ps → p ≡ q → ⊥
    apart q m same =
        let other = list_all_at (λ (r : Route). not (is_start (route_at routes p).start r.start)) (map (route_at routes) ps) (route_at routes q) (and_left _ (all_pairs (λ r q. not (is_start r.start q.start)) (map (route_at routes) ps)) h) (in_map (route_at routes) ps q m) in
        let here = subst (λ w. not (is_start (route_at routes p).start (route_at routes w).start) ≡ true) (sym same) other in
        true≢false (sym here ∙ ap not (is_start_refl (route_at routes p).start))

pub once_from : (ps : List RouteNo) (i : ℕ) (r : RouteNo) → Differ ps → slice_get ps i ≡ Some r → before_first (λ q. is_route q r) ps ≡ take i ps
once_from [] i r dif h = cc
once_from (p ∷ ps) zero r dif h = let same : p ≡ r = cc in ap (λ b. cond b [] (p ∷ before_first (λ q. is_route q r) ps)) (eq-eqb p.0 r.0 (ap (λ (w : RouteNo). w.0) same))
once_from (p ∷ ps) (suc i) r dif h = go (is_route p r) refl (once_from ps i r dif.1 h)
  where
    at_in : (ps : List RouteNo) (i : ℕ) → slice_get ps i ≡ Some r → In r ps
    at_in [] i e = cc
    at_in (q ∷ qs) zero e = inl cc
    at_in (q ∷ qs) (suc i) e = inr (at_in qs i e)

    go : (b : Bool) → is_route p r ≡ b → before_first (λ q. is_route q r) ps ≡ take i ps → before_first (λ q. is_route q r) (p ∷ ps) ≡ p ∷ take i ps
    go true e later = let n : p.0 ≡ r.0 = eqb-true p.0 r.0 e in absurd (dif.0 r (at_in ps i h) (ap (λ k. record { 0 = k }) n))
    go false e later = ap (λ b. cond b [] (p ∷ before_first (λ q. is_route q r) ps)) e ∙ ap (λ zs. p ∷ zs) later

module _ (d : Station) (adm : IsAdmitted d) where
  -- ---- the routes of the table

  -- what a route of the table is like, or the empty one that stands for none
  pub record IsGood (r : Route) : Type 0 where
    pub whole : sum_by (length_of d) r.edges ≡ length_mm r
    pub section : (e : EdgeNo × ℕ) → In e (edge_ends d 0 r.edges) → goes_over r (section_of d e.0) ≡ true
    pub released_after : (e : EdgeNo × ℕ) → In e (edge_ends d 0 r.edges) → e.1 ≤ release_offset r (section_of d e.0)
    pub released_in : (z : SectionNo) → release_offset r z ≤ length_mm r
    pub nodes_in : (p : NodeNo × ℤ) → In p r.nodes → nat_abs p.1 ≤ length_mm r
    pub nodes_rise : NodesRise r

  rises_of_offsets : (ns : List (NodeNo × ℤ)) → Pairs (λ (a b : ℤ). nat_abs a ≤ nat_abs b) (map (λ (n : NodeNo × ℤ). n.1) ns) → Pairs (λ (a b : NodeNo × ℤ). nat_abs a.1 ≤ nat_abs b.1) ns
  rises_of_offsets [] h = tt
  rises_of_offsets (n ∷ ns) h = (λ m i. h.0 m.1 (in_map (λ (q : NodeNo × ℤ). q.1) ns m i), rises_of_offsets ns h.1)

  offsets_rise : (es : List (EdgeNo × ℕ)) → Pairs (λ (m n : EdgeNo × ℕ). m.1 < n.1) es → Pairs (λ (a b : ℤ). nat_abs a ≤ nat_abs b) (pos 0 ∷ map (λ (e : EdgeNo × ℕ). pos e.1) es)
  offsets_rise es h = (λ o m. zero_least (nat_abs o), pairs_map (λ (a b : ℤ). nat_abs a ≤ nat_abs b) (λ (m n : EdgeNo × ℕ). m.1 < n.1) (λ (e : EdgeNo × ℕ). pos e.1) es later h)
    where
      zero_least : (n : ℕ) → 0 ≤ n
      zero_least n = omega arith

      later : (a b : EdgeNo × ℕ) → a.1 < b.1 → a.1 ≤ b.1
      later a b l = omega arith

  abbrev offset_no : SectionNo × ℤ → ℕ
  offset_no p = nat_abs p.1

  abbrev is_of : SectionNo → SectionNo × ℤ → Bool
  is_of z p = p.0.0 == z.0

  good_told : (r : Route) → IsAsItsEdges d r → IsGood r
  good_told r t = record {
    whole = sym long;
    section = λ e m. let s = t.section_of_edge e.0 (edge_of_end d 0 r.edges e.0 e.1 m) in list_any_from (is_of (section_of d e.0)) r.sections (section_of d e.0, s.0) s.1 (eq-eqb (section_of d e.0).0 (section_of d e.0).0 refl);
    released_after = λ e m. after e m (t.section_of_edge e.0 (edge_of_end d 0 r.edges e.0 e.1 m));
    released_in = λ z. within z (fold_reached 0 (map offset_no (filter (is_of z) r.sections)));
    nodes_in = λ p m. node_in p (subst (In p.1) t.nodes_at (in_map (λ (q : NodeNo × ℤ). q.1) r.nodes p m));
    nodes_rise = rises_of_offsets r.nodes (subst (Pairs (λ (a b : ℤ). nat_abs a ≤ nat_abs b)) (sym t.nodes_at) (offsets_rise (edge_ends d 0 r.edges) t.rising));
  }
    where
      long : length_mm r ≡ sum_by (length_of d) r.edges
      long = ap nat_abs t.length_is

      after : (e : EdgeNo × ℕ) → In e (edge_ends d 0 r.edges) → ((o : ℤ) × In (section_of d e.0, o) r.sections) → e.1 ≤ release_offset r (section_of d e.0)
      after e m (o, k) =
          let l = t.released_at (section_of d e.0) o k in
          let n : nat_abs o ≡ l.0 = ap nat_abs l.1 in
          let below = l.2.last e.0 e.1 m refl in
          let above : nat_abs o ≤ release_offset r (section_of d e.0) = fold_above 0 (map offset_no (filter (is_of (section_of d e.0)) r.sections)) (nat_abs o) (in_map offset_no (filter (is_of (section_of d e.0)) r.sections) (section_of d e.0, o) (in_filter (is_of (section_of d e.0)) r.sections (section_of d e.0, o) k (eq-eqb (section_of d e.0).0 (section_of d e.0).0 refl))) in
          omega arith

      node_in : (p : NodeNo × ℤ) → In p.1 (pos 0 ∷ map (λ (e : EdgeNo × ℕ). pos e.1) (edge_ends d 0 r.edges)) → nat_abs p.1 ≤ length_mm r
      node_in p (inl e) = let z : nat_abs p.1 ≡ 0 = ap nat_abs (sym e) in omega arith
      node_in p (inr k) = at (in_map_back (λ (e : EdgeNo × ℕ). pos e.1) (edge_ends d 0 r.edges) p.1 k)
        where
          at : ((e : EdgeNo × ℕ) × In e (edge_ends d 0 r.edges) × (pos e.1 ≡ p.1)) → nat_abs p.1 ≤ length_mm r
          at (e, i, s) = let n : nat_abs p.1 ≡ e.1 = ap nat_abs (sym s) in let l = (t.inside e.0 e.1 i).1 in let w = long in omega arith

      within : (z : SectionNo) → (release_offset r z ≡ 0) ⊎ In (release_offset r z) (map offset_no (filter (is_of z) r.sections)) → release_offset r z ≤ length_mm r
      within z (inl none) = omega arith
      within z (inr m) = go (in_map_back offset_no (filter (is_of z) r.sections) (release_offset r z) m)
        where
          go : ((p : SectionNo × ℤ) × In p (filter (is_of z) r.sections) × (offset_no p ≡ release_offset r z)) → release_offset r z ≤ length_mm r
          go (p, i, e) =
              let l = t.released_at p.0 p.1 (in_filter_back (is_of z) r.sections p i).0 in
              let n : nat_abs p.1 ≡ l.0 = ap nat_abs l.1 in
              let high = l.4 in
              let w = long in omega arith

  pub good_route : (r : RouteNo) → IsGood (route_at (routes_of d) r)
  good_route r = entry_is IsGood no_route (routes_of d) r.0 (record { whole = refl; section = λ e m. absurd m; released_after = λ e m. absurd m; released_in = λ z. omega arith; nodes_in = λ p m. absurd m; nodes_rise = tt }) (λ q m. good_told q (told d adm q m))

  -- ---- trains

  pub in_trains : (t : TrainNo) → IsTrain d t → In t (trains d)
  in_trains t h = in_map (λ n. record { 0 = n }) (one_to (length d.trains)) t.0 (let l = h.0 in let u = h.1 in in_count 1 (length d.trains) t.0 l (omega arith))

  pub vehicle_of_train : (i : ℕ) → i < length d.trains → IsTrain d (record { 0 = suc i })
  vehicle_of_train i h = (omega arith, omega arith)

  whole_path : (rs : List Route) → ((r : Route) → In r rs → sum_by (length_of d) r.edges ≡ length_mm r) → sum_by (length_of d) (flat_map (λ r. r.edges) rs) ≡ sum_by length_mm rs
  whole_path [] each = refl
  whole_path (r ∷ rs) each =
      let a = sum_by-append (length_of d) r.edges (flat_map (λ r. r.edges) rs) in
      let b = sum_by-cons length_mm r rs in
      let c = each r (inl refl) in
      let e = whole_path rs (λ q m. each q (inr m)) in
      omega arith

  module _ (n : ℕ) (plan : List (List Command)) (formed : is_well_formed d (routes_of d) n plan ≡ true) where
    pub formed_path : (t : TrainNo) → IsTrain d t → is_path (train_of d t) (path_routes (routes_of d) plan t) ≡ true
    formed_path t h = list_all_at (λ u. is_path (train_of d u) (path_routes (routes_of d) plan u)) (trains d) t (and_right (nat_le (length plan) n && list_all one_each plan) _ formed) (in_trains t h)

    pub once_each : (t : TrainNo) → IsTrain d t → Differ (path plan t)
    once_each t h = starts_apart (routes_of d) (path plan t) (and_right _ _ (and_left _ (all_pairs (λ r q. not (end_at_one_signal r.finish q.finish)) (path_routes (routes_of d) plan t)) (formed_path t h)))

    pub sound : IsSound d (routes_of d) plan
    sound = record {
      slows = λ i h. (adm.vehicle _ (adm.train (record { 0 = suc i }) (vehicle_of_train i h)).vehicle).slows;
      whole = λ t g. whole_path (take g (path_routes (routes_of d) plan t)) (λ r m. each t r (in_map_back (route_at (routes_of d)) (path plan t) r (in_take g (path_routes (routes_of d) plan t) r m)));
      exit_last = λ t g h e. exit_ends (path_routes (routes_of d) plan t) g (and_right (begins_in (first_visit (train_of d t)) (path_routes (routes_of d) plan t)) _ (and_left _ (all_pairs (λ r q. not (is_start r.start q.start)) (path_routes (routes_of d) plan t)) (and_left _ (all_pairs (λ r q. not (end_at_one_signal r.finish q.finish)) (path_routes (routes_of d) plan t)) (formed_path t h)))) e;
      nodes_in = λ r. (good_route r).nodes_in;
      nodes_rise = λ r. (good_route r).nodes_rise;
    }
      where
        each : (t : TrainNo) (r : Route) → ((p : RouteNo) × In p (path plan t) × (route_at (routes_of d) p ≡ r)) → sum_by (length_of d) r.edges ≡ length_mm r
        each t r (p, m, e) = subst (λ w. sum_by (length_of d) w.edges ≡ length_mm w) e (good_route p).whole

    pub sections_there : HasSections d (routes_of d) plan
    sections_there = record {
      whole = λ r. (good_route r).whole;
      section = λ r e m. (good_route r).section e m;
      released_after = λ r e m. (good_route r).released_after e m;
      once = λ t i r named h. once_from (path plan t) i r (once_each t named) h;
    }

    pub never_clash : is_executable d (routes_of d) plan ≡ true → (k : ℕ) → Clash d (routes_of d) plan k → ⊥
    never_clash = no_clash d (routes_of d) plan sound sections_there

  module _ (n : ℕ) (plan : List (List Command)) (formed : IsWellFormed d (routes_of d) n plan) where
    pub named_train : (t : TrainNo) (r : RouteNo) → In r (path plan t) → IsTrain d t
    named_train t r m =
        let c : Command = record { train = t; route = r } in
        let named = list_all_at (feasible.is_of d (routes_of d)) (commands plan) c formed.named (in_path t plan r m) in
        let train = first_two (nat_le 1 t.0) (nat_le t.0 (length d.trains)) (nat_le 1 r.0) (nat_le r.0 (length (routes_of d))) named in
        (leb-true 1 t.0 (and_left (nat_le 1 t.0) (nat_le t.0 (length d.trains)) train), leb-true t.0 (length d.trains) (and_right (nat_le 1 t.0) (nat_le t.0 (length d.trains)) train))

    pub path_differs : (t : TrainNo) → Differ (path plan t)
    path_differs t = go (path plan t) refl
      where
        go : (ps : List RouteNo) → path plan t ≡ ps → Differ (path plan t)
        go [] e = subst Differ (sym e) tt
        go (p ∷ ps) e = once_each n plan formed.formed t (named_train t p (subst (In p) (sym e) (inl refl)))
