-- In every run of a runnable plan each command is granted in time.
use Rattle.std.proofs.Common.{◌≡◌, ℕ, zero, suc, ◌+◌, ◌≤◌, ◌<◌, ◌⊎◌, inl, inr, min, Bool, true, false, cond, not, ◌&&◌, ◌||◌, if◌then◌else◌, ◌==◌, nat_le, nat_lt, List, [], ◌∷◌, map, filter, flat_map, take, length, slice_get, Option, Some, None, ℤ, fold, max, sum_by, refl, sym, ap, subst, ◌∙◌, arith, leb-true, leb-false, le-leb, eqb-true, eq-eqb, eq-or-lt_of_le, ◌-◌, true≢false, length-take, length-append, take_all, div-mul-le_self}
use Rattle.std.specs.List.{list_any, list_all, sum}
use Rattle.std.specs.Option.{option_or}
use Rattle.std.proofs.lemmas.List.Sums.{sum_by-cons, sum_by-take-le}
use Rattle.std.proofs.lemmas.Option.{slice_get_within}
use Rattle.std.proofs.lemmas.Nat.{le-div}
use Rattle.rail_base.specs.declared.station.Station.{Station}
use Rattle.rail_base.specs.declared.station.EdgeNo.{EdgeNo}
use Rattle.rail_base.specs.declared.station.SectionNo.{SectionNo}
use Rattle.rail_base.specs.declared.station.TrainNo.{TrainNo}
use Rattle.rail_base.specs.declared.route.Route.{Route}
use Rattle.rail_base.specs.declared.route.RouteNo.{RouteNo}
use Rattle.rail_base.specs.declared.route.OverlapSection.{OverlapSection}
use Rattle.rail_base.specs.declared.plan.Command.{Command}
use Rattle.rail_base.specs.declared.state.Event.{Event}
use Rattle.rail_base.specs.declared.state.TrainEvent.{TrainEvent}
use Rattle.rail_base.specs.declared.state.TrainState.{TrainState}
use Rattle.rail_base.specs.Numbering.{count_from, one_to, before_first}
use Rattle.rail_base.specs.Events.{has_happened}
use Rattle.rail_base.specs.Members.{In, Differ}
use Rattle.rail_base.specs.Stations.{edge_of, trains, train_length, per_tick_speed, IsTrain, whole_ticks, dwell_ticks}
use Rattle.rail_spec.specs.Track.{edge_ends}
use Rattle.rail_spec.specs.Plans.{route_at, length_mm, sections, own_sections, has_section, goes_over, share, shared, own_shared, release_offset, hold_ms, exits, is_train, is_route, commands, routes_given, path, path_routes, step_of, precedes, preceding, one_each, given_between, can_clear, may_stand, is_executable}
use Rattle.rail_spec.specs.Motion.{SpanSeen, may_stop}
use Rattle.rail_spec.specs.Dispatches.{state_of, ago, past_of, has_come, release_of_own, release_of_overlap, rates, stretch, stretches, of_plan, routes_before, speed_in, with_granted, track_end, is_at, stop_place, authority, stands}
use Rattle.rail_spec.specs.Dispatches.{is_granted, has_released, has_cleared, is_ready, granted_with, granted_after}
use Rattle.rail_spec.specs.Dispatches.{moved, pasts_at, state_at}
use Rattle.rail_laws.specs.Progress.{MayMove, hold_ticks, last_grant}
use Rattle.rail_base.proofs.Members.{and_left, and_right, and_both, in_filter, list_all_at, list_any_gives, list_any_from, below_or_not, is_false, not_less}
use Rattle.rail_base.proofs.Lists.{in_map, in_map_back, in_filter_back, in_count, in_flat_map_back, length-map}
use Rattle.rail_laws.proofs.Sums.{sum_by-map, sum_by-add, sum_by-le, sum_by-less, sum_by-none, sum_by-filter, between, filter-after, list_all_fails, in_get, get_in, get_below, get_map, get_take, take_map, one_place}
use Rattle.rail_laws.proofs.Exclusion.{by_tick, run_later}
use Rattle.rail_laws.proofs.Running.{Later, Moves, Idles, after_tick, state_is_last, ago_falls, ago_later, happens_on, granted_after_more, idle_at_first, is_granted_up_to}
use Rattle.rail_laws.proofs.Standing.{in_path}
use Rattle.rail_laws.proofs.AsEdges.{edge_of_end, fold_above, fold_reached}
use Rattle.rail_laws.proofs.Admits.{once_from}
use Rattle.rail_laws.proofs.Given.{same_train, path_is, command_in_path, steps_rise}
use Rattle.rail_laws.proofs.Moving.{moves_on}
use Rattle.rail_laws.proofs.MotionLaws.{permitted_stop}
use Rattle.rail_laws.proofs.UnderWay.{IsSound, next_grants, still, travels}
use Rattle.rail_laws.proofs.Authority.{stood_later, stood_within}

or_false : (a b : Bool) → (a || b) ≡ false → (a ≡ false) × (b ≡ false)
or_false true b h = absurd (true≢false h)
or_false false b h = (refl, h)

not_or : (a b : Bool) → (not a || b) ≡ false → (a ≡ true) × (b ≡ false)
not_or true b h = (refl, h)
not_or false b h = absurd (true≢false h)

and_second_false : (a b : Bool) → a ≡ true → (a && b) ≡ false → b ≡ false
and_second_false true b e h = h
and_second_false false b e h = absurd (true≢false (sym e))

exits_more : (g : ℕ) (rs : List Route) → list_any exits (take g rs) ≡ true → list_any exits rs ≡ true
exits_more zero rs h = absurd (true≢false (sym h))
exits_more (suc g) [] h = h
exits_more (suc g) (r ∷ rs) h = go (exits r) h (exits_more g rs)
  where
    go : (b : Bool) → (b || list_any exits (take g rs)) ≡ true → (list_any exits (take g rs) ≡ true → list_any exits rs ≡ true) → (b || list_any exits rs) ≡ true
    go true k later = refl
    go false k later = later k

exits_longer : (g h : ℕ) (rs : List Route) → g ≤ h → list_any exits (take g rs) ≡ true → list_any exits (take h rs) ≡ true
exits_longer zero h rs l e = absurd (true≢false (sym e))
exits_longer (suc g) zero rs l e = absurd (omega arith)
exits_longer (suc g) (suc h) [] l e = e
exits_longer (suc g) (suc h) (r ∷ rs) l e = go (exits r) e (exits_longer g h rs (omega arith))
  where
    go : (b : Bool) → (b || list_any exits (take g rs)) ≡ true → (list_any exits (take g rs) ≡ true → list_any exits (take h rs) ≡ true) → (b || list_any exits (take h rs)) ≡ true
    go true k later = refl
    go false k later = later k

sum_longer : (g h : ℕ) (rs : List Route) → g ≤ h → sum_by length_mm (take g rs) ≤ sum_by length_mm (take h rs)
sum_longer zero h rs l = omega arith
sum_longer (suc g) zero rs l = absurd (omega arith)
sum_longer (suc g) (suc h) [] l = omega arith
sum_longer (suc g) (suc h) (r ∷ rs) l =
    let a = sum_by-cons length_mm r (take g rs) in
    let b = sum_by-cons length_mm r (take h rs) in
    let c = sum_longer g h rs (omega arith) in omega arith

-- the routes before one and its own are no longer than the path
own_within : (rs : List Route) (i : ℕ) (r : Route) → slice_get rs i ≡ Some r → sum_by length_mm (take i rs) + length_mm r ≤ sum_by length_mm rs
own_within [] i r h = cc
own_within (q ∷ rs) zero r h = let same : length_mm q ≡ length_mm r = let e : q ≡ r = cc in ap length_mm e in let s = sum_by-cons length_mm q rs in omega arith
own_within (q ∷ rs) (suc i) r h =
    let a = sum_by-cons length_mm q (take i rs) in
    let b = sum_by-cons length_mm q rs in
    let c = own_within rs i r h in omega arith

-- what is before a route, with its own length
taken_one_more : (rs : List Route) (i : ℕ) (r : Route) → slice_get rs i ≡ Some r → sum_by length_mm (take (suc i) rs) ≡ sum_by length_mm (take i rs) + length_mm r
taken_one_more [] i r h = cc
taken_one_more (q ∷ rs) zero r h = let same : length_mm q ≡ length_mm r = let e : q ≡ r = cc in ap length_mm e in let s = sum_by-cons length_mm q (take 0 rs) in omega arith
taken_one_more (q ∷ rs) (suc i) r h =
    let a = sum_by-cons length_mm q (take i rs) in
    let b = sum_by-cons length_mm q (take (suc i) rs) in
    let c = taken_one_more rs i r h in omega arith

may_move : (rs : List Route) (x : ℕ) → (list_any exits rs ≡ true) ⊎ (x < sum_by length_mm rs) → MayMove (track_end rs) x
may_move rs x h = go (list_any exits rs) refl h
  where
    go : (b : Bool) → list_any exits rs ≡ b → (list_any exits rs ≡ true) ⊎ (x < sum_by length_mm rs) → MayMove (if b then None else Some (sum_by length_mm rs)) x
    go true e k = tt
    go false e (inl k) = absurd (true≢false (sym k ∙ e))
    go false e (inr k) = k

abbrev one_if : Bool → ℕ
one_if b = if b then 1 else 0

-- ---- how long an event has been

one_most : (b : Bool) → one_if b ≤ 1
one_most true = omega arith
one_most false = omega arith

one_grows : (a b : Bool) → (a ≡ true → b ≡ true) → one_if a ≤ one_if b
one_grows false b h = omega arith
one_grows true b h = let e : one_if b ≡ one_if true = ap one_if (h refl) in omega arith

-- how many ticks ago it had happened, up to so many
abbrev ticks_since : ℕ → List TrainState → Event → ℕ
ticks_since zero past e = 0
ticks_since (suc n) past e = one_if (has_happened (ago (suc n) past) e) + ticks_since n past e

since_within : (n : ℕ) (past : List TrainState) (e : Event) → ticks_since n past e ≤ n
since_within zero past e = omega arith
since_within (suc n) past e = let o = one_most (has_happened (ago (suc n) past) e) in let k = since_within n past e in omega arith

-- one tick more where it has happened and hadn't so long ago
since_next : (n : ℕ) (s : TrainState) (past : List TrainState) (e : Event) → ticks_since n (s ∷ past) e + one_if (has_happened (ago n past) e) ≡ ticks_since n past e + one_if (has_happened (ago 0 past) e)
since_next zero s past e = omega arith
since_next (suc n) s past e =
    let same : one_if (has_happened (ago (suc n) (s ∷ past)) e) ≡ one_if (has_happened (ago n past) e) = refl in
    let k = since_next n s past e in omega arith

since_more : (n : ℕ) (s : TrainState) (past : List TrainState) (e : Event) → has_happened (ago 0 past) e ≡ true → has_happened (ago n past) e ≡ false → ticks_since n past e < ticks_since n (s ∷ past) e
since_more n s past e has not_yet =
    let a : one_if (has_happened (ago 0 past) e) ≡ one_if true = ap one_if has in
    let b : one_if (has_happened (ago n past) e) ≡ one_if false = ap one_if not_yet in
    let k = since_next n s past e in omega arith

-- a section of an overlap is held no longer than any of it
held_most : (d : Station) → 0 < d.tick_ms → (r : Route) (z : SectionNo) → whole_ticks d (hold_ms r z) ≤ hold_ticks d r
held_most d some r z = le-div (whole_ticks d (hold_ms r z)) (longest + d.tick_ms - 1) d.tick_ms some (let a = div-mul-le_self (hold_ms r z + d.tick_ms - 1) d.tick_ms in let b = within (fold_reached 0 (map hold (filter of_section r.overlaps))) in omega arith)
  where
    hold : OverlapSection → ℕ
    hold p = p.hold_ms

    of_section : OverlapSection → Bool
    of_section p = p.section.0 == z.0

    longest : ℕ
    longest = fold max 0 (map (λ (p : OverlapSection). p.hold_ms) r.overlaps)

    within : (hold_ms r z ≡ 0) ⊎ In (hold_ms r z) (map hold (filter of_section r.overlaps)) → hold_ms r z ≤ longest
    within (inl none) = omega arith
    within (inr m) = go (in_map_back hold (filter of_section r.overlaps) (hold_ms r z) m)
      where
        go : ((p : OverlapSection) × In p (filter of_section r.overlaps) × (hold p ≡ hold_ms r z)) → hold_ms r z ≤ longest
        go (p, i, e) = let k = fold_above 0 (map hold r.overlaps) (hold p) (in_map hold r.overlaps p (in_filter_back of_section r.overlaps p i).0) in omega arith

-- ---- each command is in one train's path at most

none_count : (n a m : ℕ) → n < a → sum_by (λ (i : ℕ). one_if (n == i)) (count_from a m) ≡ 0
none_count n a zero h = refl
none_count n a (suc m) h = let s = sum_by-cons (λ (i : ℕ). one_if (n == i)) a (count_from (a + 1) m) in let k = none_count n (a + 1) m (omega arith) in let o = other (n == a) refl in omega arith
  where
    other : (b : Bool) → (n == a) ≡ b → one_if (n == a) ≡ 0
    other false e = ap one_if e
    other true e = let same = eqb-true n a e in absurd (omega arith)

own_count : (n a m : ℕ) → sum_by (λ (i : ℕ). one_if (n == i)) (count_from a m) ≤ 1
own_count n a zero = omega arith
own_count n a (suc m) = let s = sum_by-cons (λ (i : ℕ). one_if (n == i)) a (count_from (a + 1) m) in let k = go (n == a) refl (own_count n (a + 1) m) in omega arith
  where
    go : (b : Bool) → (n == a) ≡ b → sum_by (λ (i : ℕ). one_if (n == i)) (count_from (a + 1) m) ≤ 1 → one_if (n == a) + sum_by (λ (i : ℕ). one_if (n == i)) (count_from (a + 1) m) ≤ 1
    go false e k = let z : one_if (n == a) ≡ one_if false = ap one_if e in omega arith
    go true e k = let z : one_if (n == a) ≡ one_if true = ap one_if e in let same = eqb-true n a e in let none = none_count n (a + 1) m (omega arith) in omega arith

given_length_cons : (c : Command) (cs : List Command) (t : TrainNo) → length (routes_given t (c ∷ cs)) ≡ one_if (is_train c.train t) + length (routes_given t cs)
given_length_cons c cs t = go (is_train c.train t)
  where
    go : (b : Bool) → length (map (λ (e : Command). e.route) (cond b (c ∷ filter (λ (e : Command). is_train e.train t) cs) (filter (λ (e : Command). is_train e.train t) cs))) ≡ one_if b + length (routes_given t cs)
    go true = omega arith
    go false = omega arith

sum_by-same : {X : Type 0} (f g : X → ℕ) (xs : List X) → ((x : X) → f x ≡ g x) → sum_by f xs ≡ sum_by g xs
sum_by-same f g [] h = refl
sum_by-same f g (x ∷ xs) h = let a = sum_by-cons f x xs in let b = sum_by-cons g x xs in let c = sum_by-same f g xs h in let e = h x in omega arith

one_step : (d : Station) (step : List Command) → sum_by (λ t. length (routes_given t step)) (trains d) ≤ length step
one_step d [] = let z = sum_by-none (λ (t : TrainNo). length (routes_given t [])) (trains d) (λ t. refl) in omega arith
one_step d (c ∷ cs) =
    let a = sum_by-same (λ t. length (routes_given t (c ∷ cs))) (λ t. one_if (is_train c.train t) + length (routes_given t cs)) (trains d) (given_length_cons c cs) in
    let b = sum_by-add (λ t. one_if (is_train c.train t)) (λ t. length (routes_given t cs)) (trains d) in
    let number : ℕ → TrainNo = λ n. record { 0 = n } in
    let e = sum_by-map (λ (t : TrainNo). one_if (is_train c.train t)) number (one_to (length d.trains)) in
    let o = own_count c.train.0 1 (length d.trains) in
    let k = one_step d cs in
    omega arith

all_paths : (d : Station) (steps : List (List Command)) → sum_by (λ t. length (path steps t)) (trains d) ≤ length (commands steps)
all_paths d [] = let z = sum_by-none (λ (t : TrainNo). length (path [] t)) (trains d) (λ t. refl) in omega arith
all_paths d (step ∷ steps) =
    let a = sum_by-same (λ t. length (path (step ∷ steps) t)) (λ t. length (routes_given t step) + length (path steps t)) (trains d) (λ t. length-append (routes_given t step) (path steps t)) in
    let b = sum_by-add (λ t. length (routes_given t step)) (λ t. length (path steps t)) (trains d) in
    let l = length-append step (commands steps) in
    let o = one_step d step in
    let k = all_paths d steps in
    omega arith

module _ (d : Station) (routes : List Route) (plan : List (List Command)) where
  -- what progress rests on
  pub record IsLively : Type 0 where
    pub moves : (t : TrainNo) → IsTrain d t → (1 ≤ (rates d t).accel) × (1 ≤ (rates d t).brake) × (1 ≤ (rates d t).top)
    pub ticks : 0 < d.tick_ms
    pub limits : (r : RouteNo) (e : EdgeNo) → In e (route_at routes r).edges → 1 ≤ per_tick_speed d (edge_of d e).speed_mm_s
    pub released_in : (r : RouteNo) (z : SectionNo) → release_offset (route_at routes r) z ≤ length_mm (route_at routes r)
    pub differs : (t : TrainNo) → Differ (path plan t)
    pub one : list_all one_each plan ≡ true
    pub named : (c : Command) → In c (commands plan) → IsTrain d c.train
    pub can_run : is_executable d routes plan ≡ true
    pub sound : IsSound d routes plan

  abbrev pub now : ℕ → TrainNo → TrainState
  now k t = state_of (state_at d routes (of_plan routes plan) k) t

  abbrev pub rs_of : TrainNo → List Route
  rs_of t = path_routes routes plan t

  -- how far a train can need to go
  abbrev pub reach_of : TrainNo → ℕ
  reach_of t = sum_by length_mm (rs_of t) + (if list_any exits (rs_of t) then train_length d t else 0)

  abbrev past : ℕ → TrainNo → List TrainState
  past k t = past_of (pasts_at d routes (of_plan routes plan) k) t

  -- its arrival at the end of the route in this place of its path
  abbrev arrival : TrainNo → ℕ → Event
  arrival t j = record { granted = suc j; place = sum_by length_mm (take (suc j) (rs_of t)) }

  -- for how many ticks the overlaps have been held after its arrivals, at most as many as they are held
  abbrev held_after : List TrainState → TrainNo → ℕ → List Route → ℕ
  held_after ss t j [] = 0
  held_after ss t j (r ∷ rs) = ticks_since (hold_ticks d r) ss (arrival t j) + held_after ss t (suc j) rs

  abbrev pub measure : ℕ → ℕ
  measure k = sum_by (λ t. (now k t).granted + min (now k t).x (reach_of t) + (now k t).stood + held_after (past k t) t 0 (rs_of t)) (trains d)

  held_within : (ss : List TrainState) (t : TrainNo) (j : ℕ) (rs : List Route) → held_after ss t j rs ≤ sum_by (hold_ticks d) rs
  held_within ss t j [] = omega arith
  held_within ss t j (r ∷ rs) =
      let a = since_within (hold_ticks d r) ss (arrival t j) in
      let b = held_within ss t (suc j) rs in
      let c = sum_by-cons (hold_ticks d) r rs in omega arith

  since_grows : (k : ℕ) (t : TrainNo) (n : ℕ) (e : Event) → ticks_since n (past k t) e ≤ ticks_since n (past (suc k) t) e
  since_grows k t zero e = omega arith
  since_grows k t (suc n) e =
      let a = one_grows (has_happened (ago (suc n) (past k t)) e) (has_happened (ago (suc n) (past (suc k) t)) e) (happens_on d routes (of_plan routes plan) (ago (suc n) (past k t)) (ago (suc n) (past (suc k) t)) e (ago_later d routes (of_plan routes plan) k (suc n) t)) in
      let b = since_grows k t n e in omega arith

  held_grows : (k : ℕ) (t : TrainNo) (j : ℕ) (rs : List Route) → held_after (past k t) t j rs ≤ held_after (past (suc k) t) t j rs
  held_grows k t j [] = omega arith
  held_grows k t j (r ∷ rs) = let a = since_grows k t (hold_ticks d r) (arrival t j) in let b = held_grows k t (suc j) rs in omega arith

  -- where one of them has been held a tick more, all have
  held_more : (k : ℕ) (t : TrainNo) (j : ℕ) (rs : List Route) (i m : ℕ) (r : Route) → slice_get rs i ≡ Some r → m ≡ j + i → ticks_since (hold_ticks d r) (past k t) (arrival t m) < ticks_since (hold_ticks d r) (past (suc k) t) (arrival t m)
      → held_after (past k t) t j rs < held_after (past (suc k) t) t j rs
  held_more k t j [] i m r h e less = cc
  held_more k t j (q ∷ rs) zero m r h e less =
      let same : r ≡ q = cc in
      let here : m ≡ j = omega arith in
      let a : ticks_since (hold_ticks d q) (past k t) (arrival t j) < ticks_since (hold_ticks d q) (past (suc k) t) (arrival t j) =
      subst (λ n. ticks_since (hold_ticks d q) (past k t) (arrival t n) < ticks_since (hold_ticks d q) (past (suc k) t) (arrival t n)) here
      (subst (λ (w : Route). ticks_since (hold_ticks d w) (past k t) (arrival t m) < ticks_since (hold_ticks d w) (past (suc k) t) (arrival t m)) same less) in
      let b = held_grows k t (suc j) rs in omega arith
  held_more k t j (q ∷ rs) (suc i) m r h e less =
      let a = since_grows k t (hold_ticks d q) (arrival t j) in
      let b = held_more k t (suc j) rs i m r h (omega arith) less in omega arith

  -- the further back, the less had happened
  ago_further : (k : ℕ) (t : TrainNo) (n m : ℕ) → Later d routes (of_plan routes plan) (ago (n + m) (past k t)) (ago n (past k t))
  ago_further k t n zero = let z : n + 0 ≡ n = omega arith in subst (λ i. Later d routes (of_plan routes plan) (ago i (past k t)) (ago n (past k t))) (sym z) (record { granted = omega arith; x = omega arith })
  ago_further k t n (suc m) =
      let z : n + suc m ≡ suc (n + m) = omega arith in
      let a = ago_further k t n m in
      let b = ago_falls d routes (of_plan routes plan) k (n + m) t in
      let ag = a.granted in let ax = a.x in let bg = b.granted in let bx = b.x in
      subst (λ i. Later d routes (of_plan routes plan) (ago i (past k t)) (ago n (past k t))) (sym z) (record { granted = omega arith; x = omega arith })

  not_further : (k : ℕ) (t : TrainNo) (n m : ℕ) (e : Event) → n ≤ m → has_happened (ago n (past k t)) e ≡ false → has_happened (ago m (past k t)) e ≡ false
  not_further k t n m e l h = go (has_happened (ago m (past k t)) e) refl
    where
      later : Later d routes (of_plan routes plan) (ago m (past k t)) (ago n (past k t))
      later = let z : n + (m - n) ≡ m = omega arith in subst (λ i. Later d routes (of_plan routes plan) (ago i (past k t)) (ago n (past k t))) z (ago_further k t n (m - n))

      go : (b : Bool) → has_happened (ago m (past k t)) e ≡ b → b ≡ false
      go false f = refl
      go true f = absurd (true≢false (sym (happens_on d routes (of_plan routes plan) _ _ e later f) ∙ h))

  -- ---- the state after a tick

  pub state_after : (k : ℕ) (t : TrainNo) → IsTrain d t → now (suc k) t ≡ moved d routes (of_plan routes plan) t (now k t) (granted_after d routes (of_plan routes plan) (pasts_at d routes (of_plan routes plan) k) t)
  state_after k t h = go (after_tick d routes (of_plan routes plan) k t)
    where
      go : Moves d routes (of_plan routes plan) k t ⊎ Idles d routes (of_plan routes plan) k t → now (suc k) t ≡ moved d routes (of_plan routes plan) t (now k t) (granted_after d routes (of_plan routes plan) (pasts_at d routes (of_plan routes plan) k) t)
      go (inl m) = m.by_rule
      go (inr i) = let o = i.out h.0 in let l = h.1 in absurd (omega arith)

  -- every tick concerns it
  past_after : (k : ℕ) (t : TrainNo) → IsTrain d t → (s : TrainState) × (past (suc k) t ≡ s ∷ past k t)
  past_after k t h = go (after_tick d routes (of_plan routes plan) k t)
    where
      go : Moves d routes (of_plan routes plan) k t ⊎ Idles d routes (of_plan routes plan) k t → (s : TrainState) × (past (suc k) t ≡ s ∷ past k t)
      go (inl m) = (moved d routes (of_plan routes plan) t (now k t) (granted_after d routes (of_plan routes plan) (pasts_at d routes (of_plan routes plan) k) t), m.past_by_rule)
      go (inr i) = let o = i.out h.0 in let l = h.1 in absurd (omega arith)

  pub moved_granted : (t : TrainNo) (old : TrainState) (n : ℕ) → 1 ≤ n → (moved d routes (of_plan routes plan) t old n).granted ≡ n
  moved_granted t old zero h = absurd (omega arith)
  moved_granted t old (suc n) h = refl

  moved_on : (t : TrainNo) (old : TrainState) (n : ℕ) → 1 ≤ n → (moved d routes (of_plan routes plan) t old n).x ≡ old.x + speed_in d routes (of_plan routes plan) t (with_granted n old)
  moved_on t old zero h = absurd (omega arith)
  moved_on t old (suc n) h = refl

  -- ---- a command's place

  module _ (lively : IsLively) where
    pub record Place (c : Command) : Type 0 where
      pub number : ℕ
      pub there : slice_get (path plan c.train) number ≡ Some c.route
      pub before : length (routes_before d routes (of_plan routes plan) c) ≡ number
      pub length_before : sum_by length_mm (routes_before d routes (of_plan routes plan) c) ≡ sum_by length_mm (take number (rs_of c.train))

    pub place : (c : Command) → In c (commands plan) → Place c
    place c m = go (in_get (path plan c.train) c.route (command_in_path plan c m))
      where
        go : ((i : ℕ) × (slice_get (path plan c.train) i ≡ Some c.route)) → Place c
        go (i, e) =
            let first = once_from (path plan c.train) i c.route (lively.differs c.train) e in
            let within = slice_get_within (path plan c.train) i c.route e in
            record {
              number = i;
              there = e;
              before = length-map (route_at routes) (before_first (λ r. is_route r c.route) (path plan c.train)) ∙ ap length first ∙ (let l = length-take i (path plan c.train) in omega arith);
              length_before = ap (λ ps. sum_by length_mm (map (route_at routes) ps)) first ∙ ap (sum_by length_mm) (sym (take_map (route_at routes) i (path plan c.train)));
            }

    pub granted_from : (s : List TrainState) (c : Command) (p : Place c) → is_granted d routes (of_plan routes plan) s c ≡ true → p.number < (state_of s c.train).granted
    granted_from s c p h = let k = leb-true _ _ h in let b = p.before in omega arith

    granted_not : (s : List TrainState) (c : Command) (p : Place c) → is_granted d routes (of_plan routes plan) s c ≡ false → (state_of s c.train).granted ≤ p.number
    granted_not s c p h = let k = leb-false _ _ h in let b = p.before in omega arith

    -- ---- the first step with a command that waits

    pub record Waiting (s : List TrainState) : Type 0 where
      pub command : Command
      pub member : In command (commands plan)
      pub waits : is_granted d routes (of_plan routes plan) s command ≡ false
      pub before : (e : Command) → In e (commands plan) → step_of plan e < step_of plan command → is_granted d routes (of_plan routes plan) s e ≡ true

    first_waiting : (s : List TrainState) (m : ℕ) → ((e : Command) → In e (commands plan) → step_of plan e < m → is_granted d routes (of_plan routes plan) s e ≡ true) ⊎ Waiting s
    first_waiting s zero = inl (λ e i l. absurd (omega arith))
    first_waiting s (suc m) = go (first_waiting s m)
      where
        passes : (e : Command) → (not (nat_le (step_of plan e) m) || is_granted d routes (of_plan routes plan) s e) ≡ true → step_of plan e ≤ m → is_granted d routes (of_plan routes plan) s e ≡ true
        passes e h l = subst (λ b. (not b || is_granted d routes (of_plan routes plan) s e) ≡ true) (le-leb (step_of plan e) m l) h

        at : ((e : Command) → In e (commands plan) → step_of plan e < m → is_granted d routes (of_plan routes plan) s e ≡ true) → (b : Bool) → list_all (λ e. not (nat_le (step_of plan e) m) || is_granted d routes (of_plan routes plan) s e) (commands plan) ≡ b
            → ((e : Command) → In e (commands plan) → step_of plan e < suc m → is_granted d routes (of_plan routes plan) s e ≡ true) ⊎ Waiting s
        at below true h = inl (λ e i l. passes e (list_all_at (λ e. not (nat_le (step_of plan e) m) || is_granted d routes (of_plan routes plan) s e) (commands plan) e h i) (omega arith))
        at below false h =
            let f = list_all_fails (λ e. not (nat_le (step_of plan e) m) || is_granted d routes (of_plan routes plan) s e) (commands plan) h in
            let parts = not_or (nat_le (step_of plan f.0) m) (is_granted d routes (of_plan routes plan) s f.0) f.2 in
            let low = leb-true (step_of plan f.0) m parts.0 in
            inr (record { command = f.0; member = f.1; waits = parts.1; before = λ e i l. below e i (omega arith) })

        go : ((e : Command) → In e (commands plan) → step_of plan e < m → is_granted d routes (of_plan routes plan) s e ≡ true) ⊎ Waiting s → ((e : Command) → In e (commands plan) → step_of plan e < suc m → is_granted d routes (of_plan routes plan) s e ≡ true) ⊎ Waiting s
        go (inr w) = inr w
        go (inl below) = at below (list_all (λ e. not (nat_le (step_of plan e) m) || is_granted d routes (of_plan routes plan) s e) (commands plan)) refl

    some_waits : (s : List TrainState) (c : Command) → In c (commands plan) → is_granted d routes (of_plan routes plan) s c ≡ false → Waiting s
    some_waits s c m h = go (first_waiting s (suc (step_of plan c)))
      where
        go : ((e : Command) → In e (commands plan) → step_of plan e < suc (step_of plan c) → is_granted d routes (of_plan routes plan) s e ≡ true) ⊎ Waiting s → Waiting s
        go (inr w) = w
        go (inl all) = absurd (true≢false (sym (all c m (omega arith)) ∙ h))

    -- it is its train's next
    next_is : (s : List TrainState) (w : Waiting s) → slice_get (path plan w.command.train) (state_of s w.command.train).granted ≡ Some w.command.route
    next_is s w = go (below_or_not (state_of s w.command.train).granted (place w.command w.member).number)
      where
        p : Place w.command
        p = place w.command w.member

        t : TrainNo
        t = w.command.train

        go : ((state_of s w.command.train).granted < (place w.command w.member).number) ⊎ ((place w.command w.member).number ≤ (state_of s w.command.train).granted) → slice_get (path plan w.command.train) (state_of s w.command.train).granted ≡ Some w.command.route
        go (inr h) = let l = granted_not s w.command p w.waits in let same : (state_of s t).granted ≡ p.number = omega arith in ap (slice_get (path plan t)) same ∙ p.there
        go (inl h) =
            let within = slice_get_within (path plan t) p.number w.command.route p.there in
            let f = get_below (path plan t) (state_of s t).granted (omega arith) in
            let e : Command = record { train = t; route = f.0 } in
            let m = in_path t plan f.0 (get_in (path plan t) (state_of s t).granted f.0 f.1) in
            let earlier = steps_rise plan t lively.one (lively.differs t) (state_of s t).granted p.number f.0 w.command.route f.1 p.there h in
            let q = place e m in
            let less = granted_from s e q (w.before e m earlier) in
            let same : q.number ≡ (state_of s t).granted = one_place (path plan t) q.number (state_of s t).granted f.0 (lively.differs t) q.there f.1 in
            absurd (omega arith)

    -- ---- a tick in which it is ready grants it

    granted_more : (k : ℕ) (w : Waiting (state_at d routes (of_plan routes plan) k)) → is_ready d routes (of_plan routes plan) (pasts_at d routes (of_plan routes plan) k) w.command ≡ true → (now (suc k) w.command.train).granted ≡ (now k w.command.train).granted + 1
    granted_more k w ready =
        let t = w.command.train in
        let after : granted_after d routes (of_plan routes plan) (pasts_at d routes (of_plan routes plan) k) t ≡ (now k t).granted + 1 =
        ap (granted_with d routes (of_plan routes plan) (pasts_at d routes (of_plan routes plan) k) t) (next_is (state_at d routes (of_plan routes plan) k) w) ∙ ap (λ b. if b then (now k t).granted + 1 else (now k t).granted) ready in
        ap (λ (s : TrainState). s.granted) (state_after k t (lively.named w.command w.member)) ∙ moved_granted t (now k t) (granted_after d routes (of_plan routes plan) (pasts_at d routes (of_plan routes plan) k) t) (omega arith) ∙ after

    -- ---- else a train that holds it up has track ahead

    -- a command that hasn't released what the waiting one needs
    pub record Holding (ps : List (List TrainState)) (c : Command) : Type 0 where
      pub command : Command
      pub member : In command (commands plan)
      pub first : precedes routes plan command c ≡ true
      pub section : SectionNo
      pub on : In section (shared (route_at routes command.route) (route_at routes c.route))
      pub unreleased : has_released d routes (of_plan routes plan) ps command section ≡ false

    holding : (ps : List (List TrainState)) (c : Command) → is_ready d routes (of_plan routes plan) ps c ≡ false → Holding ps c
    holding ps c h = go (list_all_fails (has_cleared d routes (of_plan routes plan) ps c) (preceding routes plan c) h)
      where
        go : ((e : Command) × In e (preceding routes plan c) × (has_cleared d routes (of_plan routes plan) ps c e ≡ false)) → Holding ps c
        go (e, m, f) =
            let kept = in_filter_back (λ (g : Command). precedes routes plan g c) (commands plan) e m in
            let z = list_all_fails (has_released d routes (of_plan routes plan) ps e) (shared (route_at routes e.route) (route_at routes c.route)) f in
            record { command = e; member = kept.0; first = kept.1; section = z.0; on = z.1; unreleased = z.2 }

    -- the executable plan gives its train enough track before
    clears : (c e : Command) (z : SectionNo) → In c (commands plan) → In e (commands plan) → precedes routes plan e c ≡ true → In z (own_shared (route_at routes e.route) (route_at routes c.route)) → can_clear d routes plan e c z ≡ true
    clears c e z m k first on =
        list_all_at (can_clear d routes plan e c) (own_shared (route_at routes e.route) (route_at routes c.route)) z (may apart sharing not_later stand) on
      where
        sooner : nat_lt (step_of plan e) (step_of plan c) ≡ true
        sooner = and_right (not (is_train e.train c.train) && share (route_at routes e.route) (route_at routes c.route)) _ first

        apart : is_train e.train c.train ≡ false
        apart = is_false _ (and_left (not (is_train e.train c.train)) (share (route_at routes e.route) (route_at routes c.route)) (and_left _ (nat_lt (step_of plan e) (step_of plan c)) first))

        sharing : share (route_at routes e.route) (route_at routes c.route) ≡ true
        sharing = and_right (not (is_train e.train c.train)) _ (and_left _ (nat_lt (step_of plan e) (step_of plan c)) first)

        not_later : nat_lt (step_of plan c) (step_of plan e) ≡ false
        not_later = not_less (step_of plan c) (step_of plan e) (let l = leb-true _ _ sooner in omega arith)

        stand : may_stand d routes plan e c ≡ true
        stand = list_all_at (may_stand d routes plan e) (commands plan) c (list_all_at _ (commands plan) e lively.can_run k) m

        may : {a b l : Bool} → a ≡ false → b ≡ true → l ≡ false → (a || not b || l || (nat_lt (step_of plan e) (step_of plan c) && list_all (can_clear d routes plan e c) (own_shared (route_at routes e.route) (route_at routes c.route)))) ≡ true
            → list_all (can_clear d routes plan e c) (own_shared (route_at routes e.route) (route_at routes c.route)) ≡ true
        may {a} {b} {l} ea eb el h = last a b l ea eb el h
          where
            last : (a b l : Bool) → a ≡ false → b ≡ true → l ≡ false → (a || not b || l || (nat_lt (step_of plan e) (step_of plan c) && list_all (can_clear d routes plan e c) (own_shared (route_at routes e.route) (route_at routes c.route)))) ≡ true → list_all (can_clear d routes plan e c) (own_shared (route_at routes e.route) (route_at routes c.route)) ≡ true
            last true b l ea eb el h = absurd (true≢false ea)
            last false false l ea eb el h = absurd (true≢false (sym eb))
            last false true true ea eb el h = absurd (true≢false el)
            last false true false ea eb el h = and_right (nat_lt (step_of plan e) (step_of plan c)) _ h

    -- such a section is an own one of the route that goes over it
    own_of_shared : (r q : Route) (z : SectionNo) → In z (shared r q) → goes_over r z ≡ true → In z (own_shared r q)
    own_of_shared r q z m over = go (list_any_gives (λ (p : SectionNo × ℤ). p.0.0 == z.0) r.sections over)
      where
        go : ((p : SectionNo × ℤ) × In p r.sections × ((p.0.0 == z.0) ≡ true)) → In z (own_shared r q)
        go (p, i, e) =
            let same : p.0 ≡ z = ap (λ n. record { 0 = n }) (eqb-true p.0.0 z.0 e) in
            in_filter (has_section q) (own_sections r) z (subst (λ y. In y (own_sections r)) same (in_map (λ (y : SectionNo × ℤ). y.0) r.sections p i)) (in_filter_back (has_section q) (sections r) z m).1

    -- of those routes each is granted, and none stands before e's
    module _ (s : List TrainState) (w : Waiting s) (e : Command) (m : In e (commands plan)) (sooner : step_of plan e < step_of plan w.command) where
      abbrev u : TrainNo
      u = e.train

      abbrev own : Command → Bool
      own g = is_train g.train e.train

      abbrev long : Command → ℕ
      long g = length_mm (route_at routes g.route)

      abbrev from_to : Command → Bool
      from_to g = is_train g.train e.train && nat_le (step_of plan e) (step_of plan g) && nat_lt (step_of plan g) (step_of plan w.command)

      at_place : (j : ℕ) (g : Command) → slice_get (filter own (commands plan)) j ≡ Some g → slice_get (path plan e.train) j ≡ Some g.route
      at_place j g h = ap (λ ps. slice_get ps j) (path_is e.train plan) ∙ get_map (λ (c : Command). c.route) (filter own (commands plan)) j g h

      own_of : (j : ℕ) (g : Command) → slice_get (filter own (commands plan)) j ≡ Some g → In g (commands plan) × (g.train ≡ e.train)
      own_of j g h = let k = in_filter_back own (commands plan) g (get_in (filter own (commands plan)) j g h) in (k.0, same_train g.train e.train k.1)

      placed : (j : ℕ) (g : Command) → slice_get (filter own (commands plan)) j ≡ Some g → from_to g ≡ true → ((place e m).number ≤ j) × (j < (state_of s e.train).granted)
      placed j g h t = (from_e (below_or_not j (place e m).number), up_to)
        where
          there : slice_get (path plan e.train) j ≡ Some g.route
          there = at_place j g h

          mine : In g (commands plan) × (g.train ≡ e.train)
          mine = own_of j g h

          same : record { train = e.train; route = g.route } ≡ g
          same = ap (λ (v : TrainNo). let c : Command = record { train = v; route = g.route } in c) (sym mine.1)

          low : step_of plan e ≤ step_of plan g
          low = leb-true _ _ (and_right (is_train g.train e.train) (nat_le (step_of plan e) (step_of plan g)) (and_left (is_train g.train e.train && nat_le (step_of plan e) (step_of plan g)) (nat_lt (step_of plan g) (step_of plan w.command)) t))

          high : step_of plan g < step_of plan w.command
          high = leb-true _ _ (and_right (is_train g.train e.train && nat_le (step_of plan e) (step_of plan g)) (nat_lt (step_of plan g) (step_of plan w.command)) t)

          up_to : j < (state_of s e.train).granted
          up_to =
              let p = place g mine.0 in
              let less : p.number < (state_of s g.train).granted = granted_from s g p (w.before g mine.0 high) in
              let here : slice_get (path plan e.train) p.number ≡ Some g.route = subst (λ v. slice_get (path plan v) p.number ≡ Some g.route) mine.1 p.there in
              let one : p.number ≡ j = one_place (path plan e.train) p.number j g.route (lively.differs e.train) here there in
              let grants : (state_of s g.train).granted ≡ (state_of s e.train).granted = ap (λ v. (state_of s v).granted) mine.1 in
              omega arith

          from_e : (j < (place e m).number) ⊎ ((place e m).number ≤ j) → (place e m).number ≤ j
          from_e (inr k) = k
          from_e (inl k) =
              let rise : step_of plan (record { train = e.train; route = g.route }) < step_of plan e = steps_rise plan e.train lively.one (lively.differs e.train) j (place e m).number g.route e.route there (place e m).there k in
              let number : step_of plan (record { train = e.train; route = g.route }) ≡ step_of plan g = ap (step_of plan) same in
              let l = low in absurd (omega arith)

      given_is : given_between plan e w.command ≡ filter from_to (filter own (commands plan))
      given_is = filter-after own from_to (commands plan) (λ g t. and_left (is_train g.train e.train) (nat_le (step_of plan e) (step_of plan g)) (and_left _ (nat_lt (step_of plan g) (step_of plan w.command)) t))

      length_of_taken : (g : ℕ) → sum_by length_mm (take g (rs_of e.train)) ≡ sum_by long (take g (filter own (commands plan)))
      length_of_taken g =
          ap (λ ps. sum_by length_mm (take g (map (route_at routes) ps))) (path_is e.train plan)
          ∙ ap (sum_by length_mm) (take_map (route_at routes) g (map (λ (c : Command). c.route) (filter own (commands plan))) ∙ ap (map (route_at routes)) (take_map (λ (c : Command). c.route) g (filter own (commands plan))))
          ∙ sum_by-map length_mm (route_at routes) (map (λ (c : Command). c.route) (take g (filter own (commands plan))))
          ∙ sum_by-map (λ r. length_mm (route_at routes r)) (λ (c : Command). c.route) (take g (filter own (commands plan)))

      e_granted : (place e m).number < (state_of s e.train).granted
      e_granted = granted_from s e (place e m) (w.before e m sooner)

      -- the routes before e's, with those given from e on, are no more than what is granted
      given_length : sum_by length_mm (map (λ (g : Command). route_at routes g.route) (given_between plan e w.command)) + sum_by length_mm (take (place e m).number (rs_of e.train)) ≤ sum_by length_mm (take (state_of s e.train).granted (rs_of e.train))
      given_length =
          let a : sum_by length_mm (map (λ (g : Command). route_at routes g.route) (given_between plan e w.command)) ≡ sum_by long (filter from_to (filter own (commands plan))) = sum_by-map length_mm (λ (g : Command). route_at routes g.route) (given_between plan e w.command) ∙ ap (sum_by long) given_is in
          let b = length_of_taken (place e m).number in
          let c = length_of_taken (state_of s e.train).granted in
          let l = e_granted in
          let k = between long from_to (filter own (commands plan)) (place e m).number (state_of s e.train).granted (omega arith) placed in
          omega arith

      given_exits : list_any exits (map (λ (g : Command). route_at routes g.route) (given_between plan e w.command)) ≡ true → list_any exits (take (state_of s e.train).granted (rs_of e.train)) ≡ true
      given_exits h = go (list_any_gives exits _ h)
        where
          at : (r : Route) → ((g : Command) × In g (given_between plan e w.command) × (route_at routes g.route ≡ r)) → exits r ≡ true → list_any exits (take (state_of s e.train).granted (rs_of e.train)) ≡ true
          at r (g, k, same) x =
              let kept = in_filter_back from_to (filter own (commands plan)) g (subst (In g) given_is k) in
              let f = in_get (filter own (commands plan)) g kept.0 in
              let less = (placed f.0 g f.1 kept.1).1 in
              list_any_from exits (take (state_of s e.train).granted (rs_of e.train)) (route_at routes g.route) (get_take (rs_of e.train) f.0 (state_of s e.train).granted (route_at routes g.route) (get_map (route_at routes) (path plan e.train) f.0 g.route (at_place f.0 g f.1)) less) (ap exits same ∙ x)

          go : ((r : Route) × In r (map (λ (g : Command). route_at routes g.route) (given_between plan e w.command)) × (exits r ≡ true)) → list_any exits (take (state_of s e.train).granted (rs_of e.train)) ≡ true
          go (r, k, x) = at r (in_map_back (λ (g : Command). route_at routes g.route) (given_between plan e w.command) r k) x

      -- so the train that holds a section has track ahead, and needs it
      ahead : (z : SectionNo) → can_clear d routes plan e w.command z ≡ true → has_happened (state_of s e.train) (release_of_own d routes (of_plan routes plan) e z).event ≡ false
          → ((list_any exits (take (state_of s e.train).granted (rs_of e.train)) ≡ true) ⊎ ((state_of s e.train).x < sum_by length_mm (take (state_of s e.train).granted (rs_of e.train)))) × ((state_of s e.train).x < reach_of e.train)
      ahead z clear un = go (list_any exits (take (state_of s e.train).granted (rs_of e.train))) refl (either _ _ clear)
        where
          either : (a b : Bool) → (a || b) ≡ true → (a ≡ true) ⊎ (b ≡ true)
          either true b h = inl refl
          either false b h = inr h

          x : ℕ
          x = (state_of s e.train).x

          tail : (state_of s e.train).x < sum_by length_mm (take (place e m).number (rs_of e.train)) + release_offset (route_at routes e.route) z + train_length d e.train
          tail = let k = leb-false _ _ (and_second_false _ _ (w.before e m sooner) un) in let b = (place e m).length_before in omega arith

          by_length : nat_le (release_offset (route_at routes e.route) z + train_length d e.train) (sum_by length_mm (map (λ (g : Command). route_at routes g.route) (given_between plan e w.command))) ≡ true → (state_of s e.train).x < sum_by length_mm (take (state_of s e.train).granted (rs_of e.train))
          by_length h = let l = leb-true _ _ h in let g = given_length in let t = tail in omega arith

          in_all : sum_by length_mm (take (state_of s e.train).granted (rs_of e.train)) ≤ sum_by length_mm (rs_of e.train)
          in_all = sum_by-take-le length_mm (rs_of e.train) (state_of s e.train).granted

          needed : (state_of s e.train).x < sum_by length_mm (rs_of e.train) → (state_of s e.train).x < reach_of e.train
          needed l = omega arith

          past : list_any exits (rs_of e.train) ≡ true → (state_of s e.train).x < reach_of e.train
          past h =
              let more : (if list_any exits (rs_of e.train) then train_length d e.train else 0) ≡ train_length d e.train = ap (λ b. if b then train_length d e.train else 0) h in
              let t = tail in
              let r = lively.released_in e.route z in
              let o = own_within (rs_of e.train) (place e m).number (route_at routes e.route) (get_map (route_at routes) (path plan e.train) (place e m).number e.route (place e m).there) in
              omega arith

          go : (b : Bool) → list_any exits (take (state_of s e.train).granted (rs_of e.train)) ≡ b → (nat_le (release_offset (route_at routes e.route) z + train_length d e.train) (sum_by length_mm (map (λ (g : Command). route_at routes g.route) (given_between plan e w.command))) ≡ true) ⊎ (list_any exits (map (λ (g : Command). route_at routes g.route) (given_between plan e w.command)) ≡ true)
              → ((list_any exits (take (state_of s e.train).granted (rs_of e.train)) ≡ true) ⊎ ((state_of s e.train).x < sum_by length_mm (take (state_of s e.train).granted (rs_of e.train)))) × ((state_of s e.train).x < reach_of e.train)
          go b eb (inr h) = let k = given_exits h in (inl k, past (exits_more (state_of s e.train).granted (rs_of e.train) k))
          go true eb (inl h) = (inl eb, past (exits_more (state_of s e.train).granted (rs_of e.train) eb))
          go false eb (inl h) = let l = by_length h in let i = in_all in (inr l, needed (omega arith))

    -- ---- and moves

    stretch_limit : (t : TrainNo) (g : ℕ) (s : SpanSeen) → In s (stretches d (take g (rs_of t))) → 1 ≤ s.limit
    stretch_limit t g s m = go (in_map_back (stretch d) (edge_ends d 0 (flat_map (λ r. r.edges) (take g (rs_of t)))) s m)
      where
        at_edge : (e : EdgeNo × ℕ) → ((r : Route) × In r (take g (rs_of t)) × In e.0 r.edges) → 1 ≤ per_tick_speed d (edge_of d e.0).speed_mm_s
        at_edge e (r, k, i) = at_route r i (in_map_back (route_at routes) (take g (path plan t)) r (subst (In r) (take_map (route_at routes) g (path plan t)) k))
          where
            at_route : (r : Route) → In e.0 r.edges → ((p : RouteNo) × In p (take g (path plan t)) × (route_at routes p ≡ r)) → 1 ≤ per_tick_speed d (edge_of d e.0).speed_mm_s
            at_route r i (p, l, same) = lively.limits p e.0 (subst (λ (q : Route). In e.0 q.edges) (sym same) i)

        go : ((e : EdgeNo × ℕ) × In e (edge_ends d 0 (flat_map (λ r. r.edges) (take g (rs_of t)))) × (stretch d e ≡ s)) → 1 ≤ s.limit
        go (e, k, same) = subst (λ (z : SpanSeen). 1 ≤ z.limit) same (at_edge e (in_flat_map_back (λ (r : Route). r.edges) (take g (rs_of t)) e.0 (edge_of_end d 0 (flat_map (λ r. r.edges) (take g (rs_of t))) e.0 e.1 k)))

    -- the train is farther on, or has stood longer
    abbrev GoesOn : ℕ → TrainNo → Type 0
    GoesOn k t = ((now k t).x + 1 ≤ (now (suc k) t).x) ⊎ ((now k t).stood + 1 ≤ (now (suc k) t).stood)

    goes_on : (k : ℕ) (t : TrainNo) → IsTrain d t → 1 ≤ (now k t).granted → (list_any exits (take (now k t).granted (rs_of t)) ≡ true) ⊎ ((now k t).x < sum_by length_mm (take (now k t).granted (rs_of t))) → GoesOn k t
    goes_on k t h some track =
        by_grants (granted_after d routes (of_plan routes plan) (pasts_at d routes (of_plan routes plan) k) t) (granted_after_more d routes (of_plan routes plan) (pasts_at d routes (of_plan routes plan) k) t)
        (next_grants d routes plan (pasts_at d routes (of_plan routes plan) k) t) (state_after k t h)
      where
        longer : (g : ℕ) → (now k t).granted ≤ g → (list_any exits (take (now k t).granted (rs_of t)) ≡ true) ⊎ ((now k t).x < sum_by length_mm (take (now k t).granted (rs_of t))) → (list_any exits (take g (rs_of t)) ≡ true) ⊎ ((now k t).x < sum_by length_mm (take g (rs_of t)))
        longer g l (inl e) = inl (exits_longer (now k t).granted g (rs_of t) l e)
        longer g l (inr e) = let m = sum_longer (now k t).granted g (rs_of t) l in inr (omega arith)

        by_grants : (g : ℕ) → (now k t).granted ≤ g → (g ≡ (now k t).granted) ⊎ (g ≡ (now k t).granted + 1) → now (suc k) t ≡ moved d routes (of_plan routes plan) t (now k t) g → GoesOn k t
        by_grants zero l e next = absurd (omega arith)
        by_grants (suc n) l e next = go (stop_place d routes (of_plan routes plan) t (with_granted (suc n) (now k t))) refl
          where
            runs : MayMove (authority d routes (of_plan routes plan) t (with_granted (suc n) (now k t))) (now k t).x → GoesOn k t
            runs may =
                let can = lively.moves t h in
                let speed : 1 ≤ speed_in d routes (of_plan routes plan) t (with_granted (suc n) (now k t)) = moves_on (rates d t) (stretches d (take (suc n) (rs_of t))) (authority d routes (of_plan routes plan) t (with_granted (suc n) (now k t))) (now k t).x (now k t).v can.0 can.1 can.2 (stretch_limit t (suc n)) may in
                let x_after : (now (suc k) t).x ≡ (now k t).x + speed_in d routes (of_plan routes plan) t (with_granted (suc n) (now k t)) = ap (λ (s : TrainState). s.x) next in
                inl (omega arith)

            within : may_stop (authority d routes (of_plan routes plan) t (with_granted (suc n) (now k t))) (now k t).x ≡ true
            within = permitted_stop (rates d t) (stretches d (take (suc n) (rs_of t))) (authority d routes (of_plan routes plan) t (with_granted (suc n) (now k t))) (now k t).x (now k t).v ((now k t).v - (rates d t).brake) (now k t).x (omega arith)
                (still d routes plan lively.sound t h (now k t) n (travels d routes plan lively.sound k t) e)

            at_place : (q : ℕ) → stop_place d routes (of_plan routes plan) t (with_granted (suc n) (now k t)) ≡ Some q → ((now k t).x ≡ q) ⊎ ((now k t).x < q) → GoesOn k t
            at_place q is (inr less) = runs (subst (λ o. MayMove (option_or o (track_end (take (suc n) (rs_of t)))) (now k t).x) (sym is) less)
            at_place q is (inl same) =
                let stays : stands d routes (of_plan routes plan) t (with_granted (suc n) (now k t)) ≡ true = ap (λ o. is_at o (now k t).x) is ∙ eq-eqb (now k t).x q same in
                let stood_after : (now (suc k) t).stood ≡ (now k t).stood + 1 = ap (λ (s : TrainState). s.stood) next ∙ ap (λ b. if b then (now k t).stood + 1 else (now k t).stood) stays in
                inr (omega arith)

            go : (o : Option ℕ) → stop_place d routes (of_plan routes plan) t (with_granted (suc n) (now k t)) ≡ o → GoesOn k t
            go None is = runs (subst (λ o. MayMove (option_or o (track_end (take (suc n) (rs_of t)))) (now k t).x) (sym is) (may_move (take (suc n) (rs_of t)) (now k t).x (longer (suc n) l track)))
            go (Some q) is = at_place q is (eq-or-lt_of_le (leb-true (now k t).x q (subst (λ o. may_stop (option_or o (track_end (take (suc n) (rs_of t)))) (now k t).x ≡ true) is within)))

    -- ---- each tick counts

    in_trains : (t : TrainNo) → IsTrain d t → In t (trains d)
    in_trains t h = in_map (λ n. record { 0 = n }) (one_to (length d.trains)) t.0 (let l = h.0 in let u = h.1 in in_count 1 (length d.trains) t.0 l (omega arith))

    abbrev share_of : ℕ → TrainNo → ℕ
    share_of k t = (now k t).granted + min (now k t).x (reach_of t) + (now k t).stood + held_after (past k t) t 0 (rs_of t)

    stood_grows : (k : ℕ) (t : TrainNo) → (now k t).stood ≤ (now (suc k) t).stood
    stood_grows k t = stood_later d routes (of_plan routes plan) k t

    share_grows : (k : ℕ) (t : TrainNo) → share_of k t ≤ share_of (suc k) t
    share_grows k t = let l = run_later d routes plan k t in let g = l.granted in let x = l.x in let s = stood_grows k t in let h = held_grows k t 0 (rs_of t) in omega arith

    measure_grows : (k : ℕ) (t : TrainNo) → IsTrain d t → share_of k t < share_of (suc k) t → measure k < measure (suc k)
    measure_grows k t h less = sum_by-less (share_of k) (share_of (suc k)) (trains d) t (share_grows k) (in_trains t h) less

    going_counts : (k : ℕ) (t : TrainNo) → IsTrain d t → (now k t).x < reach_of t → GoesOn k t → measure k < measure (suc k)
    going_counts k t h need (inl moves) = let g = (run_later d routes plan k t).granted in let s = stood_grows k t in let o = held_grows k t 0 (rs_of t) in measure_grows k t h (omega arith)
    going_counts k t h need (inr stood) = let l = run_later d routes plan k t in let g = l.granted in let x = l.x in let o = held_grows k t 0 (rs_of t) in measure_grows k t h (omega arith)

    -- a command that holds a section of its overlap has its train run up to the route's end, or time run on from there
    overlap_counts : (k : ℕ) (e : Command) (z : SectionNo) → In e (commands plan) → is_granted d routes (of_plan routes plan) (state_at d routes (of_plan routes plan) k) e ≡ true
        → has_come (pasts_at d routes (of_plan routes plan) k) (release_of_overlap d routes (of_plan routes plan) e z) ≡ false → measure k < measure (suc k)
    overlap_counts k e z m granted un = go (below_or_not (now k e.train).x (sum_by length_mm (take (suc p.number) (rs_of e.train))))
      where
        p : Place e
        p = place e m

        named : IsTrain d e.train
        named = lively.named e m

        there : slice_get (rs_of e.train) p.number ≡ Some (route_at routes e.route)
        there = get_map (route_at routes) (path plan e.train) p.number e.route p.there

        has : p.number < (now k e.train).granted
        has = granted_from (state_at d routes (of_plan routes plan) k) e p granted

        arrives : (release_of_overlap d routes (of_plan routes plan) e z).event ≡ arrival e.train p.number
        arrives =
            let place_is : sum_by length_mm (routes_before d routes (of_plan routes plan) e) + length_mm (route_at routes e.route) ≡ sum_by length_mm (take (suc p.number) (rs_of e.train)) = let b = p.length_before in let o = taken_one_more (rs_of e.train) p.number (route_at routes e.route) there in omega arith in
            ap (λ n. record { granted = suc n; place = sum_by length_mm (routes_before d routes (of_plan routes plan) e) + length_mm (route_at routes e.route) }) p.before
            ∙ ap (λ n. record { granted = suc p.number; place = n }) place_is

        not_yet : has_happened (ago (hold_ticks d (route_at routes e.route)) (past k e.train)) (arrival e.train p.number) ≡ false
        not_yet = not_further k e.train (whole_ticks d (hold_ms (route_at routes e.route) z)) (hold_ticks d (route_at routes e.route)) (arrival e.train p.number) (held_most d lively.ticks (route_at routes e.route) z)
            (ap (has_happened (ago (whole_ticks d (hold_ms (route_at routes e.route) z)) (past k e.train))) (sym arrives) ∙ un)

        go : ((now k e.train).x < sum_by length_mm (take (suc p.number) (rs_of e.train))) ⊎ (sum_by length_mm (take (suc p.number) (rs_of e.train)) ≤ (now k e.train).x) → measure k < measure (suc k)
        go (inl short) =
            let g = has in
            let a = sum_longer (suc p.number) (now k e.train).granted (rs_of e.train) (omega arith) in
            let b = sum_by-take-le length_mm (rs_of e.train) (suc p.number) in
            going_counts k e.train named (omega arith) (goes_on k e.train named (omega arith) (inr (omega arith)))
        go (inr far) =
            let g = has in
            let now_happened : has_happened (ago 0 (past k e.train)) (arrival e.train p.number) ≡ true =
            ap (λ s. has_happened s (arrival e.train p.number)) (sym (state_is_last d routes (of_plan routes plan) (pasts_at d routes (of_plan routes plan) k) e.train))
            ∙ and_both _ _ (le-leb (suc p.number) (now k e.train).granted (omega arith)) (le-leb _ (now k e.train).x far) in
            let next = past_after k e.train named in
            let more : ticks_since (hold_ticks d (route_at routes e.route)) (past k e.train) (arrival e.train p.number) < ticks_since (hold_ticks d (route_at routes e.route)) (past (suc k) e.train) (arrival e.train p.number) =
            subst (λ ss. ticks_since (hold_ticks d (route_at routes e.route)) (past k e.train) (arrival e.train p.number) < ticks_since (hold_ticks d (route_at routes e.route)) ss (arrival e.train p.number)) (sym next.1)
            (since_more (hold_ticks d (route_at routes e.route)) next.0 (past k e.train) (arrival e.train p.number) now_happened not_yet) in
            let l = run_later d routes plan k e.train in let lg = l.granted in let lx = l.x in let s = stood_grows k e.train in
            let o = held_more k e.train 0 (rs_of e.train) p.number p.number (route_at routes e.route) there (omega arith) more in
            measure_grows k e.train named (omega arith)

    pub tick_counts : (k : ℕ) (c : Command) → In c (commands plan) → is_granted d routes (of_plan routes plan) (state_at d routes (of_plan routes plan) k) c ≡ false → measure k < measure (suc k)
    tick_counts k c m h = at (some_waits (state_at d routes (of_plan routes plan) k) c m h)
      where
        at : Waiting (state_at d routes (of_plan routes plan) k) → measure k < measure (suc k)
        at w = go (is_ready d routes (of_plan routes plan) (pasts_at d routes (of_plan routes plan) k) w.command) refl
          where
            t : TrainNo
            t = w.command.train

            held : Holding (pasts_at d routes (of_plan routes plan) k) w.command → measure k < measure (suc k)
            held o = by_kind (goes_over (route_at routes o.command.route) o.section) refl
              where
                sooner : step_of plan o.command < step_of plan w.command
                sooner = leb-true _ _ (and_right (not (is_train o.command.train w.command.train) && share (route_at routes o.command.route) (route_at routes w.command.route)) _ o.first)

                has : (place o.command o.member).number < (now k o.command.train).granted
                has = e_granted (state_at d routes (of_plan routes plan) k) w o.command o.member sooner

                event_of : Bool → TrainEvent
                event_of b = if b then release_of_own d routes (of_plan routes plan) o.command o.section else release_of_overlap d routes (of_plan routes plan) o.command o.section

                by_kind : (b : Bool) → goes_over (route_at routes o.command.route) o.section ≡ b → measure k < measure (suc k)
                by_kind false over = overlap_counts k o.command o.section o.member (w.before o.command o.member sooner) (ap (λ b. has_come (pasts_at d routes (of_plan routes plan) k) (event_of b)) (sym over) ∙ o.unreleased)
                by_kind true over =
                    let un : has_happened (now k o.command.train) (release_of_own d routes (of_plan routes plan) o.command o.section).event ≡ false =
                    ap (λ s. has_happened s (release_of_own d routes (of_plan routes plan) o.command o.section).event) (state_is_last d routes (of_plan routes plan) (pasts_at d routes (of_plan routes plan) k) o.command.train)
                    ∙ ap (λ b. has_come (pasts_at d routes (of_plan routes plan) k) (event_of b)) (sym over) ∙ o.unreleased in
                    let clear = clears w.command o.command o.section w.member o.member o.first (own_of_shared (route_at routes o.command.route) (route_at routes w.command.route) o.section o.on over) in
                    let track = ahead (state_at d routes (of_plan routes plan) k) w o.command o.member sooner o.section clear un in
                    let g = has in
                    going_counts k o.command.train (lively.named o.command o.member) track.1 (goes_on k o.command.train (lively.named o.command o.member) (omega arith) track.0)

            go : (b : Bool) → is_ready d routes (of_plan routes plan) (pasts_at d routes (of_plan routes plan) k) w.command ≡ b → measure k < measure (suc k)
            go true ready = let g = granted_more k w ready in let x = (run_later d routes plan k w.command.train).x in let s = stood_grows k w.command.train in let o = held_grows k w.command.train 0 (rs_of w.command.train) in measure_grows k w.command.train (lively.named w.command w.member) (omega arith)
            go false not_ready = held (holding (pasts_at d routes (of_plan routes plan) k) w.command not_ready)

    not_before : (k : ℕ) (c : Command) → is_granted d routes (of_plan routes plan) (state_at d routes (of_plan routes plan) (suc k)) c ≡ false → is_granted d routes (of_plan routes plan) (state_at d routes (of_plan routes plan) k) c ≡ false
    not_before k c h = go (is_granted d routes (of_plan routes plan) (state_at d routes (of_plan routes plan) k) c) refl
      where
        go : (b : Bool) → is_granted d routes (of_plan routes plan) (state_at d routes (of_plan routes plan) k) c ≡ b → b ≡ false
        go false e = refl
        go true e = absurd (true≢false (sym (is_granted_up_to d routes (of_plan routes plan) k (suc k) c (omega arith) e) ∙ h))

    counts : (k : ℕ) (c : Command) → In c (commands plan) → is_granted d routes (of_plan routes plan) (state_at d routes (of_plan routes plan) k) c ≡ false → suc k ≤ measure (suc k)
    counts zero c m h = let l = tick_counts zero c m h in omega arith
    counts (suc k) c m h = let l = tick_counts (suc k) c m h in let before = counts k c m (not_before k c h) in omega arith

    -- ---- and there are only so many

    granted_within : (k : ℕ) (t : TrainNo) → (now k t).granted ≤ length (path plan t)
    granted_within zero t = let none = ap (λ (s : TrainState). s.granted) (idle_at_first d routes (of_plan routes plan) t) in omega arith
    granted_within (suc k) t = by_tick d routes plan (λ old new. old.granted ≤ length (path plan t) → new.granted ≤ length (path plan t)) k t (λ h. h) (λ low high h. moved_within (granted_after d routes (of_plan routes plan) (pasts_at d routes (of_plan routes plan) k) t) h (after_within h)) (granted_within k t)
      where
        moved_within : (n : ℕ) → (now k t).granted ≤ length (path plan t) → n ≤ length (path plan t) → (moved d routes (of_plan routes plan) t (now k t) n).granted ≤ length (path plan t)
        moved_within zero h l = h
        moved_within (suc n) h l = l

        after_within : (now k t).granted ≤ length (path plan t) → granted_after d routes (of_plan routes plan) (pasts_at d routes (of_plan routes plan) k) t ≤ length (path plan t)
        after_within h = go (slice_get (path plan t) (now k t).granted) refl
          where
            step : (b : Bool) (r : RouteNo) → slice_get (path plan t) (now k t).granted ≡ Some r → (if b then (now k t).granted + 1 else (now k t).granted) ≤ length (path plan t)
            step false r e = h
            step true r e = let l = slice_get_within (path plan t) (now k t).granted r e in omega arith

            go : (o : Option RouteNo) → slice_get (path plan t) (now k t).granted ≡ o → granted_with d routes (of_plan routes plan) (pasts_at d routes (of_plan routes plan) k) t o ≤ length (path plan t)
            go None e = h
            go (Some r) e = step (is_ready d routes (of_plan routes plan) (pasts_at d routes (of_plan routes plan) k) (record { train = t; route = r })) r e

    reaches : sum_by reach_of (trains d) ≡ sum_by (λ t. sum_by length_mm (rs_of t)) (trains d) + sum_by (train_length d) (filter (λ t. list_any exits (rs_of t)) (trains d))
    reaches =
        sum_by-add (λ t. sum_by length_mm (rs_of t)) (λ t. if list_any exits (rs_of t) then train_length d t else 0) (trains d)
        ∙ ap (λ n. sum_by (λ t. sum_by length_mm (rs_of t)) (trains d) + n) (sym (sum_by-filter (train_length d) (λ t. list_any exits (rs_of t)) (trains d)))

    measure_within : (k : ℕ) → measure k ≤ last_grant d routes plan
    measure_within k =
        let a = sum_by-le (share_of k) (λ t. length (path plan t) + reach_of t + sum (dwell_ticks d t) + sum_by (hold_ticks d) (rs_of t)) (trains d) (λ t. let g = granted_within k t in let s : (now k t).stood ≤ sum (dwell_ticks d t) = stood_within d routes (of_plan routes plan) k t in let h = held_within (past k t) t 0 (rs_of t) in omega arith) in
        let h = sum_by-add (λ t. length (path plan t) + reach_of t + sum (dwell_ticks d t)) (λ t. sum_by (hold_ticks d) (rs_of t)) (trains d) in
        let b = sum_by-add (λ t. length (path plan t) + reach_of t) (λ t. sum (dwell_ticks d t)) (trains d) in
        let f = sum_by-add (λ t. length (path plan t)) reach_of (trains d) in
        let c = all_paths d plan in
        let e = reaches in
        omega arith

    pub granted_in_time : (k : ℕ) (c : Command) → In c (commands plan) → last_grant d routes plan ≤ k → is_granted d routes (of_plan routes plan) (state_at d routes (of_plan routes plan) k) c ≡ true
    granted_in_time k c m late = go (is_granted d routes (of_plan routes plan) (state_at d routes (of_plan routes plan) k) c) refl
      where
        go : (b : Bool) → is_granted d routes (of_plan routes plan) (state_at d routes (of_plan routes plan) k) c ≡ b → b ≡ true
        go true e = refl
        go false e = let l = counts k c m e in let w = measure_within (suc k) in absurd (omega arith)

    -- ---- and then all trains run to the end of what they need

    abbrev AllGranted : ℕ → Type 0
    AllGranted k = (c : Command) → In c (commands plan) → is_granted d routes (of_plan routes plan) (state_at d routes (of_plan routes plan) k) c ≡ true

    pub all_of_path : (k : ℕ) (t : TrainNo) → AllGranted k → length (path plan t) ≤ (now k t).granted
    all_of_path k t all = go (length (path plan t)) refl
      where
        last : (i : ℕ) → length (path plan t) ≡ suc i → ((r : RouteNo) × (slice_get (path plan t) i ≡ Some r)) → suc i ≤ (now k t).granted
        last i e (r, f) =
            let c : Command = record { train = t; route = r } in
            let m = in_path t plan r (get_in (path plan t) i r f) in
            let p = place c m in
            let same : p.number ≡ i = one_place (path plan t) p.number i r (lively.differs t) p.there f in
            let less = granted_from (state_at d routes (of_plan routes plan) k) c p (all c m) in omega arith

        go : (n : ℕ) → length (path plan t) ≡ n → length (path plan t) ≤ (now k t).granted
        go zero e = omega arith
        go (suc i) e = let l = last i e (get_below (path plan t) i (omega arith)) in omega arith

    rest_moves : (k : ℕ) (t : TrainNo) → IsTrain d t → AllGranted k → (now k t).x < reach_of t → measure k < measure (suc k)
    rest_moves k t h all short = some_route (path plan t) refl
      where
        taken : take (now k t).granted (rs_of t) ≡ rs_of t
        taken = take_all (now k t).granted (rs_of t) (let a = all_of_path k t all in let l = length-map (route_at routes) (path plan t) in omega arith)

        track : (b : Bool) → list_any exits (rs_of t) ≡ b → (list_any exits (rs_of t) ≡ true) ⊎ ((now k t).x < sum_by length_mm (rs_of t))
        track true e = inl e
        track false e = let none : (if list_any exits (rs_of t) then train_length d t else 0) ≡ 0 = ap (λ b. if b then train_length d t else 0) e in inr (omega arith)

        ahead_of : (list_any exits (take (now k t).granted (rs_of t)) ≡ true) ⊎ ((now k t).x < sum_by length_mm (take (now k t).granted (rs_of t)))
        ahead_of = subst (λ rs. (list_any exits rs ≡ true) ⊎ ((now k t).x < sum_by length_mm rs)) (sym taken) (track (list_any exits (rs_of t)) refl)

        some_route : (ps : List RouteNo) → path plan t ≡ ps → measure k < measure (suc k)
        some_route [] e = let none : reach_of t ≡ 0 = ap (λ ps. sum_by length_mm (map (route_at routes) ps) + (if list_any exits (map (route_at routes) ps) then train_length d t else 0)) e in absurd (omega arith)
        some_route (p ∷ ps) e =
            let long : length (path plan t) ≡ suc (length ps) = ap length e in
            let a = all_of_path k t all in
            going_counts k t h short (goes_on k t h (omega arith) ahead_of)

    short_counts : (k : ℕ) (t : TrainNo) → IsTrain d t → (now k t).x < reach_of t → measure k < measure (suc k)
    short_counts k t h short = go (list_all (is_granted d routes (of_plan routes plan) (state_at d routes (of_plan routes plan) k)) (commands plan)) refl
      where
        go : (b : Bool) → list_all (is_granted d routes (of_plan routes plan) (state_at d routes (of_plan routes plan) k)) (commands plan) ≡ b → measure k < measure (suc k)
        go true e = rest_moves k t h (λ c m. list_all_at (is_granted d routes (of_plan routes plan) (state_at d routes (of_plan routes plan) k)) (commands plan) c e m) short
        go false e = let f = list_all_fails (is_granted d routes (of_plan routes plan) (state_at d routes (of_plan routes plan) k)) (commands plan) e in tick_counts k f.0 f.1 f.2

    counts_short : (k : ℕ) (t : TrainNo) → IsTrain d t → (now k t).x < reach_of t → suc k ≤ measure (suc k)
    counts_short zero t h short = let l = short_counts zero t h short in omega arith
    counts_short (suc k) t h short =
        let l = short_counts (suc k) t h short in
        let x = (run_later d routes plan k t).x in
        let before = counts_short k t h (omega arith) in omega arith

    pub runs_through : (k : ℕ) (t : TrainNo) → IsTrain d t → last_grant d routes plan ≤ k → reach_of t ≤ (now k t).x
    runs_through k t h late = go (below_or_not (now k t).x (reach_of t))
      where
        go : ((now k t).x < reach_of t) ⊎ (reach_of t ≤ (now k t).x) → reach_of t ≤ (now k t).x
        go (inr l) = l
        go (inl l) = let c = counts_short k t h l in let w = measure_within (suc k) in absurd (omega arith)
