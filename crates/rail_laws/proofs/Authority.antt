-- In a run under any orderly dispatch trains keep within their authority, stop at their places and stand there.
use Rattle.std.proofs.Common.{◌≡◌, ℕ, zero, suc, ◌+◌, ◌-◌, ◌≤◌, ◌<◌, ◌⊎◌, inl, inr, Bool, true, false, if◌then◌else◌, nat_le, List, ◌++◌, map, take, drop, length, sum_by, flat_map, Option, None, Some, option_map, refl, sym, ap, subst, ◌∙◌, arith, leb-true, le-leb, eqb-true, true≢false, take-add, take-append-drop, take_all, slice_get, ℤ, nat_abs}
use Rattle.std.specs.List.{list_any, sum}
use Rattle.std.specs.Option.{option_or}
use Rattle.rail_base.specs.declared.station.Station.{Station}
use Rattle.rail_base.specs.declared.station.NodeNo.{NodeNo}
use Rattle.rail_base.specs.declared.station.TrainNo.{TrainNo}
use Rattle.rail_base.specs.declared.route.Route.{Route}
use Rattle.rail_base.specs.declared.route.RouteNo.{RouteNo}
use Rattle.rail_base.specs.declared.state.TrainState.{TrainState}
use Rattle.rail_base.specs.declared.state.PathNode.{PathNode}
use Rattle.rail_base.specs.Members.{In, Pairs}
use Rattle.rail_base.specs.Numbering.{entry, greatest}
use Rattle.rail_base.specs.Stations.{IsTrain, train_of, dwell_ticks}
use Rattle.rail_spec.specs.Plans.{route_at, length_mm, exits}
use Rattle.rail_spec.specs.Places.{path_nodes, visits_on, next_stop}
use Rattle.rail_spec.specs.Motion.{MotorSeen, SpanSeen, permitted, next_speed, may_stop, reach}
use Rattle.rail_spec.specs.Dispatches.{idle, state_of, now, rates, stretches, is_at, Dispatch, is_ready, track_end, with_granted, stop, stop_place, authority, stands}
use Rattle.rail_spec.specs.Dispatches.{speed_in, granted_with, granted_after, moved, pasts_at}
use Rattle.rail_spec.specs.Visits.{visits_of_train}
use Rattle.rail_laws.specs.Standing.{IsAsFar, NodesRise, IsOrderly, given, seen, after, StandsAtItsPlace, WaitsAtItsPlace, StandsAtVisit, StandsNoLonger, AuthorityGrows}
use Rattle.rail_base.proofs.Members.{and_both}
use Rattle.rail_base.proofs.Lists.{in_map_back}
use Rattle.rail_laws.proofs.MotionLaws.{farthest, permitted_further, permitted_after, next_speed_permitted, permitted_stop}
use Rattle.rail_laws.proofs.Visiting.{in_take, NodesIn, AllRise, in_path_nodes, in_visits_on, path_rises, visits_rise, longer_path, visits_grown, NoLater, Grown, AllGrown}
use Rattle.rail_laws.proofs.Stops.{stop_in, stop_below, stop_later, stop_grown, stop_before, stop_is, grown_entry}
use Rattle.rail_laws.proofs.Ahead.{further, stretches-append, reaches, authority_farther, authority_some, as_far_same, as_far_trans, as_far_farther, farther_as_far, may_stop_as_far, permitted_as_far}
use Rattle.rail_laws.proofs.Running.{Moves, Idles, after_tick, idle_at_first, granted_after_more}

-- ---- a head at the end of its authority

greatest_or_none : (test : ℕ → Bool) (n : ℕ) → (greatest test n ≡ 0) ⊎ (test (greatest test n) ≡ true)
greatest_or_none test zero = inl refl
greatest_or_none test (suc n) = go (test (suc n)) refl (greatest_or_none test n)
  where
    go : (b : Bool) → test (suc n) ≡ b → (greatest test n ≡ 0) ⊎ (test (greatest test n) ≡ true) → ((if b then suc n else greatest test n) ≡ 0) ⊎ (test (if b then suc n else greatest test n) ≡ true)
    go true e below = inr e
    go false e below = below

pub stays_put : (m : MotorSeen) (ss : List SpanSeen) (x v : ℕ) → next_speed m ss (Some x) x v ≡ 0
stays_put m ss x v = go (greatest_or_none (permitted m ss (Some x) x v) (reach m v))
  where
    go : (next_speed m ss (Some x) x v ≡ 0) ⊎ (permitted m ss (Some x) x v (next_speed m ss (Some x) x v) ≡ true) → next_speed m ss (Some x) x v ≡ 0
    go (inl e) = e
    go (inr h) =
        let u = next_speed m ss (Some x) x v in
        let l : x + u ≤ x = leb-true (x + u) x (permitted_stop m ss (Some x) x v u (x + u) (omega arith) h) in
        omega arith

pub is_at_some : (o : Option ℕ) (x : ℕ) → is_at o x ≡ true → o ≡ Some x
is_at_some None x h = absurd (true≢false (sym h))
is_at_some (Some q) x h = ap Some (sym (eqb-true x q h))

-- where a place is told, the head is before it
may_stop_before_first : (o rest : Option ℕ) (x : ℕ) → may_stop (option_or o rest) x ≡ true → may_stop o x ≡ true
may_stop_before_first None rest x h = refl
may_stop_before_first (Some q) rest x h = h

may_stop_at_zero : (o : Option ℕ) → may_stop o 0 ≡ true
may_stop_at_zero None = refl
may_stop_at_zero (Some q) = le-leb 0 q (omega arith)

apart : {o : Option PathNode} (s : PathNode) → o ≡ None → o ≡ Some s → ⊥
apart s h k = cc

same_some : (a b : PathNode) → Some a ≡ Some b → a ≡ b
same_some a b h = cc

no_number : (x : ℕ) → None ≡ Some x → ⊥
no_number x h = cc

same_number : (x y : ℕ) → Some x ≡ Some y → x ≡ y
same_number x y h = cc

module _ (d : Station) (routes : List Route) (p : Dispatch) where
  -- the end of authority on these routes after so many ticks stood
  abbrev pub stop_on : TrainNo → List Route → ℕ → Option PathNode
  stop_on t rs n = next_stop (dwell_ticks d t) (visits_on (train_of d t).visits (path_nodes rs)) n

  abbrev pub end_on : TrainNo → List Route → ℕ → Option ℕ
  end_on t rs n = option_or (option_map (λ (s : PathNode). s.event.place) (stop_on t rs n)) (track_end rs)

  abbrev pub Braked : TrainNo → List Route → ℕ → ℕ → ℕ → ℕ → Type 0
  Braked t rs n x v u = permitted (rates d t) (stretches d rs) (end_on t rs n) x v u ≡ true

  pub record Travels (t : TrainNo) (s : TrainState) : Type 0 where
    pub waits : s.granted ≡ 0 → (s.x ≡ 0) × (s.v ≡ 0)
    pub braking : 1 ≤ s.granted → permitted (rates d t) (stretches d (given d routes p t s.granted)) (authority d routes p t s) s.x s.v (s.v - (rates d t).brake) ≡ true

  pub next_grants : (ps : List (List TrainState)) (t : TrainNo) → (granted_after d routes p ps t ≡ (state_of (now ps) t).granted) ⊎ (granted_after d routes p ps t ≡ (state_of (now ps) t).granted + 1)
  next_grants ps t = go (slice_get (p.path t) (state_of (now ps) t).granted)
    where
      step : (b : Bool) (g : ℕ) → ((if b then g + 1 else g) ≡ g) ⊎ ((if b then g + 1 else g) ≡ g + 1)
      step true g = inr refl
      step false g = inl refl

      go : (o : Option RouteNo) → (granted_with d routes p ps t o ≡ (state_of (now ps) t).granted) ⊎ (granted_with d routes p ps t o ≡ (state_of (now ps) t).granted + 1)
      go None = inl refl
      go (Some r) = step (is_ready d routes p ps (record { train = t; route = r })) (state_of (now ps) t).granted

  -- ---- ticks stood

  stood_most : (t : TrainNo) (s : TrainState) → s.stood ≤ sum (dwell_ticks d t) → (if stands d routes p t s then s.stood + 1 else s.stood) ≤ sum (dwell_ticks d t)
  stood_most t s h = go (stop d routes p t s) refl
    where
      go : (o : Option PathNode) → stop d routes p t s ≡ o → (if is_at (option_map (λ (q : PathNode). q.event.place) (stop d routes p t s)) s.x then s.stood + 1 else s.stood) ≤ sum (dwell_ticks d t)
      go None e = subst (λ o. (if is_at (option_map (λ (q : PathNode). q.event.place) o) s.x then s.stood + 1 else s.stood) ≤ sum (dwell_ticks d t)) (sym e) h
      go (Some q) e = least_more (stands d routes p t s)
        where
          below : s.stood < sum (dwell_ticks d t)
          below = stop_below (dwell_ticks d t) _ s.stood q e

          least_more : (b : Bool) → (if b then s.stood + 1 else s.stood) ≤ sum (dwell_ticks d t)
          least_more true = let l = below in omega arith
          least_more false = h

  stood_more : (b : Bool) (n : ℕ) → n ≤ (if b then n + 1 else n)
  stood_more true n = omega arith
  stood_more false n = omega arith

  moved_stood : (t : TrainNo) (old : TrainState) (n : ℕ) → old.stood ≤ (moved d routes p t old n).stood
  moved_stood t old zero = omega arith
  moved_stood t old (suc n) = stood_more (stands d routes p t (with_granted (suc n) old)) old.stood

  moved_stood_most : (t : TrainNo) (old : TrainState) (n : ℕ) → old.stood ≤ sum (dwell_ticks d t) → (moved d routes p t old n).stood ≤ sum (dwell_ticks d t)
  moved_stood_most t old zero h = h
  moved_stood_most t old (suc n) h = stood_most t (with_granted (suc n) old) h

  -- what holds of a train after a tick, from what the rule gives
  pub by_each_tick : (P : TrainState → TrainState → Type 0) (k : ℕ) (t : TrainNo) → P idle idle → P (after d routes p k t) (after d routes p k t)
      → (IsTrain d t → P (after d routes p k t) (moved d routes p t (after d routes p k t) (granted_after d routes p (pasts_at d routes p k) t)))
      → P (after d routes p k t) (after d routes p (suc k) t)
  by_each_tick P k t none same moves = go (after_tick d routes p k t)
    where
      step : IsTrain d t → (b : Bool) → P (after d routes p k t) (if b then moved d routes p t (after d routes p k t) (granted_after d routes p (pasts_at d routes p k) t) else after d routes p k t)
      step named true = moves named
      step named false = same

      go : Moves d routes p k t ⊎ Idles d routes p k t → P (after d routes p k t) (after d routes p (suc k) t)
      go (inl m) = subst (P (after d routes p k t)) (sym m.by_rule) (step (m.first, m.last) (p.concerns (suc k) t))
      go (inr i) = subst (λ o. P o (after d routes p (suc k) t)) (sym i.old) (subst (P idle) (sym i.new) none)

  pub stood_later : (k : ℕ) (t : TrainNo) → (after d routes p k t).stood ≤ (after d routes p (suc k) t).stood
  stood_later k t = by_each_tick (λ old new. old.stood ≤ new.stood) k t (omega arith) (omega arith) (λ named. moved_stood t (after d routes p k t) (granted_after d routes p (pasts_at d routes p k) t))

  pub stood_up_to : (m k : ℕ) (t : TrainNo) → (after d routes p k t).stood ≤ (after d routes p (k + m) t).stood
  stood_up_to zero k t = let z : k + 0 ≡ k = omega arith in subst (λ n. (after d routes p k t).stood ≤ (after d routes p n t).stood) (sym z) (let same : (after d routes p k t).stood ≤ (after d routes p k t).stood = omega arith in same)
  stood_up_to (suc m) k t =
      let z : k + suc m ≡ suc (k + m) = omega arith in
      let a = stood_up_to m k t in
      let b = stood_later (k + m) t in
      let c : (after d routes p k t).stood ≤ (after d routes p (suc (k + m)) t).stood = omega arith in
      subst (λ n. (after d routes p k t).stood ≤ (after d routes p n t).stood) (sym z) c

  pub stood_within : (k : ℕ) (t : TrainNo) → (after d routes p k t).stood ≤ sum (dwell_ticks d t)
  stood_within zero t = let z : (after d routes p zero t).stood ≡ 0 = ap (λ (s : TrainState). s.stood) (idle_at_first d routes p t) in omega arith
  stood_within (suc k) t = by_each_tick (λ old new. old.stood ≤ sum (dwell_ticks d t) → new.stood ≤ sum (dwell_ticks d t)) k t (λ h. h) (λ h. h) (λ named h. moved_stood_most t (after d routes p k t) (granted_after d routes p (pasts_at d routes p k) t) h) (stood_within k t)

  pub stood_ticks : (k : ℕ) (t : TrainNo) → (after d routes p k t).stood ≤ k
  stood_ticks zero t = let z : (after d routes p zero t).stood ≡ 0 = ap (λ (s : TrainState). s.stood) (idle_at_first d routes p t) in omega arith
  stood_ticks (suc k) t = by_each_tick (λ old new. old.stood ≤ k → new.stood ≤ suc k) k t (λ h. omega arith) (λ h. omega arith) (λ named h. moves (after d routes p k t) (granted_after d routes p (pasts_at d routes p k) t) h) (stood_ticks k t)
    where
      step : (b : Bool) (n : ℕ) → n ≤ k → (if b then n + 1 else n) ≤ suc k
      step true n h = omega arith
      step false n h = omega arith

      moves : (old : TrainState) (n : ℕ) → old.stood ≤ k → (moved d routes p t old n).stood ≤ suc k
      moves old zero h = omega arith
      moves old (suc n) h = step (stands d routes p t (with_granted (suc n) old)) old.stood h

  pub stands_no_longer : (k : ℕ) (t : TrainNo) → StandsNoLonger d routes p k t
  stands_no_longer k t = record { grows = stood_later k t; most = stood_within k t; ticks = stood_ticks k t }

  -- ---- a head at its place stands

  pub stands_still : (t : TrainNo) (s : TrainState) → stands d routes p t s ≡ true → speed_in d routes p t s ≡ 0
  stands_still t s h =
      let at : stop_place d routes p t s ≡ Some s.x = is_at_some (stop_place d routes p t s) s.x h in
      ap (λ o. next_speed (rates d t) (stretches d (given d routes p t s.granted)) (option_or o (track_end (given d routes p t s.granted))) s.x s.v) at
      ∙ stays_put (rates d t) (stretches d (given d routes p t s.granted)) s.x s.v

  -- with nothing granted there is no place
  no_stop : (t : TrainNo) (s : TrainState) → s.granted ≡ 0 → stands d routes p t s ≡ false
  no_stop t s none = go (stop d routes p t s) refl
    where
      go : (o : Option PathNode) → stop d routes p t s ≡ o → is_at (option_map (λ (q : PathNode). q.event.place) o) s.x ≡ false
      go None e = refl
      go (Some q) e = absurd (in_visits_on (train_of d t).visits (path_nodes (given d routes p t 0)) q (stop_in (dwell_ticks d t) (visits_on (train_of d t).visits (path_nodes (given d routes p t 0))) s.stood q (subst (λ g. stop_on t (given d routes p t g) s.stood ≡ Some q) none e)))

  abbrev pub Rests : TrainNo → TrainState → TrainState → Type 0
  Rests t old new = (stands d routes p t (with_granted new.granted old) ≡ true → (new.x ≡ old.x) × (new.v ≡ 0) × (new.stood ≡ old.stood + 1))
      × (stands d routes p t (with_granted new.granted old) ≡ false → new.stood ≡ old.stood)

  pub stands_at_place : (k : ℕ) (t : TrainNo) → IsTrain d t → p.concerns (suc k) t ≡ true → StandsAtItsPlace d routes p k t
  stands_at_place k t named concerned = go (after_tick d routes p k t)
    where
      rests : (o : TrainState) (n : ℕ) → o.granted ≤ n → Rests t o (moved d routes p t o n)
      rests o zero l = (λ h. absurd (true≢false (sym h ∙ no_stop t (with_granted o.granted o) (let z : o.granted ≡ 0 = omega arith in z))), λ h. refl)
      rests o (suc n) l = (
        λ h. let u : speed_in d routes p t (with_granted (suc n) o) ≡ 0 = stands_still t (with_granted (suc n) o) h in (
          (let z : o.x + speed_in d routes p t (with_granted (suc n) o) ≡ o.x = omega arith in z),
          u,
          ap (λ b. if b then o.stood + 1 else o.stood) h,
        ),
        λ h. ap (λ b. if b then o.stood + 1 else o.stood) h,
      )

      told : Rests t (after d routes p k t) (after d routes p (suc k) t) → StandsAtItsPlace d routes p k t
      told r = record { stays = λ h. (r.0 h).0; at_rest = λ h. (r.0 h).1; one_more = λ h. (r.0 h).2; else_none = r.1 }

      go : Moves d routes p k t ⊎ Idles d routes p k t → StandsAtItsPlace d routes p k t
      go (inr i) = let o = i.out named.0 in let l = named.1 in absurd (omega arith)
      go (inl m) = told (subst (Rests t (after d routes p k t)) (sym (m.by_rule ∙ ap (λ b. if b then moved d routes p t (after d routes p k t) (granted_after d routes p (pasts_at d routes p k) t) else after d routes p k t) concerned))
          (rests (after d routes p k t) (granted_after d routes p (pasts_at d routes p k) t) (granted_after_more d routes p (pasts_at d routes p k) t)))

  -- who has stood longer after a tick has stood at its place
  stood_there : (k : ℕ) (t : TrainNo) → (after d routes p k t).stood < (after d routes p (suc k) t).stood → (stop_place d routes p t (seen d routes p k t) ≡ Some (after d routes p k t).x) × ((after d routes p (suc k) t).x ≡ (after d routes p k t).x)
  stood_there k t = by_each_tick (λ old new. old.stood < new.stood → (stop_place d routes p t (with_granted new.granted old) ≡ Some old.x) × (new.x ≡ old.x)) k t (λ l. absurd (omega arith)) (λ l. absurd (omega arith))
      (λ named. moves (after d routes p k t) (granted_after d routes p (pasts_at d routes p k) t))
    where
      moves : (old : TrainState) (n : ℕ) → old.stood < (moved d routes p t old n).stood → (stop_place d routes p t (with_granted (moved d routes p t old n).granted old) ≡ Some old.x) × ((moved d routes p t old n).x ≡ old.x)
      moves old zero l = absurd (omega arith)
      moves old (suc n) l = go (stands d routes p t (with_granted (suc n) old)) refl l
        where
          go : (b : Bool) → stands d routes p t (with_granted (suc n) old) ≡ b → old.stood < (if b then old.stood + 1 else old.stood) → (stop_place d routes p t (with_granted (suc n) old) ≡ Some old.x) × (old.x + speed_in d routes p t (with_granted (suc n) old) ≡ old.x)
          go false e l = absurd (omega arith)
          go true e l = let u = stands_still t (with_granted (suc n) old) e in (is_at_some (stop_place d routes p t (with_granted (suc n) old)) old.x e, omega arith)

  -- where the visits are made on the first so many routes
  abbrev made : TrainNo → ℕ → List (Option PathNode)
  made t g = visits_on (train_of d t).visits (path_nodes (given d routes p t g))

  -- on the whole path they stay where they are, or are made past those
  whole_grown : (t : TrainNo) (g : ℕ) → (more : List PathNode) × AllGrown more (made t g) (visits_of_train d routes p t) × ((s : PathNode) → In s more → sum_by length_mm (given d routes p t g) ≤ s.event.place)
  whole_grown t g = go (longer_path (given d routes p t g) (drop g (map (route_at routes) (p.path t))))
    where
      go : ((more : List PathNode) × (path_nodes (given d routes p t g ++ drop g (map (route_at routes) (p.path t))) ≡ path_nodes (given d routes p t g) ++ more) × ((s : PathNode) → In s more → sum_by length_mm (given d routes p t g) ≤ s.event.place))
          → (more : List PathNode) × AllGrown more (made t g) (visits_of_train d routes p t) × ((s : PathNode) → In s more → sum_by length_mm (given d routes p t g) ≤ s.event.place)
      go (more, e, past) = (
        more,
        subst (λ rs. AllGrown more (made t g) (visits_on (train_of d t).visits (path_nodes rs))) (take-append-drop g (map (route_at routes) (p.path t)))
            (subst (λ ps. AllGrown more (made t g) (visits_on (train_of d t).visits ps)) (sym e) (visits_grown (train_of d t).visits (path_nodes (given d routes p t g)) more)),
        past,
      )

  module _ (orderly : IsOrderly d routes p) where
    -- ---- places on the routes that are granted

    from_path : (t : TrainNo) (g : ℕ) (r : Route) → In r (given d routes p t g) → (n : RouteNo) × In n (p.path t) × (route_at routes n ≡ r)
    from_path t g r m = in_map_back (route_at routes) (p.path t) r (in_take g (map (route_at routes) (p.path t)) r m)

    given_in : (t : TrainNo) (g : ℕ) → NodesIn (given d routes p t g)
    given_in t g r m = go (from_path t g r m)
      where
        go : ((n : RouteNo) × In n (p.path t) × (route_at routes n ≡ r)) → (q : NodeNo × ℤ) → In q r.nodes → nat_abs q.1 ≤ length_mm r
        go (n, i, e) = subst (λ (r : Route). (q : NodeNo × ℤ) → In q r.nodes → nat_abs q.1 ≤ length_mm r) e (orderly.nodes_in n)

    given_rise : (t : TrainNo) (g : ℕ) → AllRise (given d routes p t g)
    given_rise t g r m = go (from_path t g r m)
      where
        go : ((n : RouteNo) × In n (p.path t) × (route_at routes n ≡ r)) → NodesRise r
        go (n, i, e) = subst NodesRise e (orderly.nodes_rise n)

    pub visits_in_order : (t : TrainNo) (g : ℕ) → Pairs NoLater (visits_on (train_of d t).visits (path_nodes (given d routes p t g)))
    visits_in_order t g = visits_rise (train_of d t).visits (path_nodes (given d routes p t g)) (path_rises (given d routes p t g) (given_in t g) (given_rise t g))

    -- a place is on the routes that are granted
    place_within : (t : TrainNo) (g n : ℕ) (s : PathNode) → stop_on t (given d routes p t g) n ≡ Some s → s.event.place ≤ sum_by length_mm (given d routes p t g)
    place_within t g n s e = (in_path_nodes (given d routes p t g) (given_in t g) s (in_visits_on (train_of d t).visits (path_nodes (given d routes p t g)) s (stop_in (dwell_ticks d t) _ n s e))).0

    covers : (t : TrainNo) (g : ℕ) → sum_by length_mm (given d routes p t g) ≤ farthest 0 (stretches d (given d routes p t g))
    covers t g = let r = reaches d 0 0 (flat_map (λ r. r.edges) (given d routes p t g)) (omega arith) in let w = orderly.whole t g in omega arith

    -- there is an end unless the train exits
    pub record Ends (t : TrainNo) (g n : ℕ) : Type 0 where
      pub place : ℕ
      pub end_is : end_on t (given d routes p t g) n ≡ Some place
      pub on_track : place ≤ sum_by length_mm (given d routes p t g)

    ends : (t : TrainNo) (g n : ℕ) → list_any exits (given d routes p t g) ≡ false → Ends t g n
    ends t g n inside = go (stop_on t (given d routes p t g) n) refl
      where
        go : (o : Option PathNode) → stop_on t (given d routes p t g) n ≡ o → Ends t g n
        go (Some s) e = record { place = s.event.place; end_is = ap (λ o. option_or (option_map (λ (s : PathNode). s.event.place) o) (track_end (given d routes p t g))) e; on_track = place_within t g n s e }
        go None e = record {
          place = sum_by length_mm (given d routes p t g);
          end_is = ap (λ o. option_or (option_map (λ (s : PathNode). s.event.place) o) (track_end (given d routes p t g))) e ∙ authority_some (given d routes p t g) inside;
          on_track = omega arith;
        }

    track_as_far : (rs : List Route) (q : ℕ) → q ≤ sum_by length_mm rs → IsAsFar (Some q) (track_end rs)
    track_as_far rs q l = go (list_any exits rs)
      where
        go : (b : Bool) → IsAsFar (Some q) (if b then None else Some (sum_by length_mm rs))
        go true = tt
        go false = l

    -- who has stood more may go as far
    pub stood_farther : (t : TrainNo) (g m n : ℕ) → m ≤ n → IsAsFar (end_on t (given d routes p t g) m) (end_on t (given d routes p t g) n)
    stood_farther t g m n l =
        go (stop_on t (given d routes p t g) m) (stop_on t (given d routes p t g) n) (λ s e. place_within t g m s e)
        (stop_later (dwell_ticks d t) (visits_on (train_of d t).visits (path_nodes (given d routes p t g))) m n (visits_in_order t g) l)
      where
        go : (a b : Option PathNode) → ((s : PathNode) → a ≡ Some s → s.event.place ≤ sum_by length_mm (given d routes p t g)) → NoLater a b
            → IsAsFar (option_or (option_map (λ (s : PathNode). s.event.place) a) (track_end (given d routes p t g))) (option_or (option_map (λ (s : PathNode). s.event.place) b) (track_end (given d routes p t g)))
        go None None in_track h = as_far_same (track_end (given d routes p t g))
        go None (Some b) in_track h = absurd h
        go (Some a) (Some b) in_track h = h
        go (Some a) None in_track h = track_as_far (given d routes p t g) a.event.place (in_track a refl)

    -- so may who is granted one route more
    longer : (t : TrainNo) (g : ℕ) → given d routes p t (g + 1) ≡ given d routes p t g ++ take 1 (drop g (map (route_at routes) (p.path t)))
    longer t g = take-add g 1 (map (route_at routes) (p.path t))

    whole_given : (t : TrainNo) (g : ℕ) → IsTrain d t → list_any exits (given d routes p t g) ≡ true → given d routes p t g ≡ given d routes p t (g + 1)
    whole_given t g named e =
        let all = orderly.exit_last t g named e in
        take_all g (map (route_at routes) (p.path t)) (omega arith) ∙ sym (take_all (g + 1) (map (route_at routes) (p.path t)) (omega arith))

    longer_farther : (t : TrainNo) (rs qs : List Route) (n : ℕ) → list_any exits rs ≡ false → IsAsFar (end_on t rs n) (end_on t (rs ++ qs) n)
    longer_farther t rs qs n inside = at (longer_path rs qs)
      where
        go : (more : List PathNode) → ((s : PathNode) → In s more → sum_by length_mm rs ≤ s.event.place) → (a b : Option PathNode) → Grown more a b
            → IsAsFar (option_or (option_map (λ (s : PathNode). s.event.place) a) (track_end rs)) (option_or (option_map (λ (s : PathNode). s.event.place) b) (track_end (rs ++ qs)))
        go more past (Some a) b h = subst (λ o. IsAsFar (Some a.event.place) (option_or (option_map (λ (s : PathNode). s.event.place) o) (track_end (rs ++ qs)))) (sym h) (let same : a.event.place ≤ a.event.place = omega arith in same)
        go more past None None h = subst (λ o. IsAsFar o (track_end (rs ++ qs))) (sym (authority_some rs inside)) (farther_as_far (sum_by length_mm rs) (track_end (rs ++ qs)) (authority_farther rs qs))
        go more past None (Some b) h = subst (λ o. IsAsFar o (Some b.event.place)) (sym (authority_some rs inside)) (past b h)

        at : ((more : List PathNode) × (path_nodes (rs ++ qs) ≡ path_nodes rs ++ more) × ((s : PathNode) → In s more → sum_by length_mm rs ≤ s.event.place)) → IsAsFar (end_on t rs n) (end_on t (rs ++ qs) n)
        at (more, e, past) =
            go more past (stop_on t rs n) (stop_on t (rs ++ qs) n)
            (subst (λ ps. Grown more (stop_on t rs n) (next_stop (dwell_ticks d t) (visits_on (train_of d t).visits ps) n)) (sym e)
            (stop_grown more (dwell_ticks d t) (visits_on (train_of d t).visits (path_nodes rs)) (visits_on (train_of d t).visits (path_nodes rs ++ more)) n (visits_grown (train_of d t).visits (path_nodes rs) more)))

    pub granted_farther : (t : TrainNo) (g n : ℕ) → IsTrain d t → IsAsFar (end_on t (given d routes p t g) n) (end_on t (given d routes p t (g + 1)) n)
    granted_farther t g n named = go (list_any exits (given d routes p t g)) refl
      where
        go : (b : Bool) → list_any exits (given d routes p t g) ≡ b → IsAsFar (end_on t (given d routes p t g) n) (end_on t (given d routes p t (g + 1)) n)
        go true e = subst (λ rs. IsAsFar (end_on t (given d routes p t g) n) (end_on t rs n)) (whole_given t g named e) (as_far_same (end_on t (given d routes p t g) n))
        go false e = subst (λ rs. IsAsFar (end_on t (given d routes p t g) n) (end_on t rs n)) (sym (longer t g)) (longer_farther t (given d routes p t g) (take 1 (drop g (map (route_at routes) (p.path t)))) n e)

    -- ---- one more route leaves what is permitted so

    one_more : (t : TrainNo) (named : IsTrain d t) (g n x v u : ℕ) → Braked t (given d routes p t g) n x v u → Braked t (given d routes p t (g + 1)) n x v u
    one_more t named g n x v u h = go (list_any exits (given d routes p t g)) refl
      where
        go : (b : Bool) → list_any exits (given d routes p t g) ≡ b → Braked t (given d routes p t (g + 1)) n x v u
        go true e = subst (λ rs. Braked t rs n x v u) (whole_given t g named e) h
        go false e =
            let more : List Route = take 1 (drop g (map (route_at routes) (p.path t))) in
            let end = ends t g n e in
            let at_end = subst (λ o. permitted (rates d t) (stretches d (given d routes p t g)) o x v u ≡ true) end.end_is h in
            let far = subst (λ o. IsAsFar o (end_on t (given d routes p t g ++ more) n)) end.end_is (longer_farther t (given d routes p t g) more n e) in
            let in_track = end.on_track in
            let covered = covers t g in
            let grown = permitted_further (rates d t) end.place (stretches d (given d routes p t g)) (further d (given d routes p t g) more) (end_on t (given d routes p t g ++ more) n) x v u (omega arith) (as_far_farther end.place (end_on t (given d routes p t g ++ more) n) far) at_end in
            let joined = subst (λ ss. permitted (rates d t) ss (end_on t (given d routes p t g ++ more) n) x v u ≡ true) (sym (stretches-append d (given d routes p t g) more)) grown in
            subst (λ rs. Braked t rs n x v u) (sym (longer t g)) joined

    -- full braking is permitted by what is granted now, too
    pub still : (t : TrainNo) (named : IsTrain d t) (old : TrainState) (n : ℕ) → Travels t old → (suc n ≡ old.granted) ⊎ (suc n ≡ old.granted + 1)
        → permitted (rates d t) (stretches d (given d routes p t (suc n))) (authority d routes p t (with_granted (suc n) old)) old.x old.v (old.v - (rates d t).brake) ≡ true
    still t named old n h (inl e) = subst (λ g. Braked t (given d routes p t g) old.stood old.x old.v (old.v - (rates d t).brake)) (sym e) (h.braking (omega arith))
    still t named old zero h (inr e) = let rest = h.waits (omega arith) in at_rest (end_on t (given d routes p t 1) old.stood) old.x old.v rest.0 rest.1
      where
        at_rest : (end : Option ℕ) (x v : ℕ) → x ≡ 0 → v ≡ 0 → permitted (rates d t) (stretches d (given d routes p t 1)) end x v (v - (rates d t).brake) ≡ true
        at_rest end x v ex ev =
            let no_speed : v - (rates d t).brake ≡ 0 = omega arith in
            rw (no_speed, ex) (and_both (nat_le 0 (reach (rates d t) v)) (may_stop end 0) (le-leb 0 (reach (rates d t) v) (omega arith)) (may_stop_at_zero end))
    still t named old (suc n) h (inr e) =
        let g : suc n ≡ old.granted = omega arith in
        let more : suc n + 1 ≡ suc (suc n) = omega arith in
        subst (λ m. Braked t (given d routes p t m) old.stood old.x old.v (old.v - (rates d t).brake)) more
        (one_more t named (suc n) old.stood old.x old.v _ (subst (λ m. Braked t (given d routes p t m) old.stood old.x old.v (old.v - (rates d t).brake)) (sym g) (h.braking (omega arith))))

    travels_on : (t : TrainNo) (named : IsTrain d t) (old : TrainState) (n : ℕ) → 1 ≤ (rates d t).brake → Travels t old → (n ≡ old.granted) ⊎ (n ≡ old.granted + 1) → Travels t (moved d routes p t old n)
    travels_on t named old zero slows h (inl e) = h
    travels_on t named old zero slows h (inr e) = absurd (omega arith)
    travels_on t named old (suc n) slows h e =
        let now = still t named old n h e in
        let end = authority d routes p t (with_granted (suc n) old) in
        let u = next_speed (rates d t) (stretches d (given d routes p t (suc n))) end old.x old.v in
        record {
          waits = λ z. absurd (omega arith);
          braking = λ l. permitted_as_far (rates d t) (stretches d (given d routes p t (suc n))) end (end_on t (given d routes p t (suc n)) (moved d routes p t old (suc n)).stood) (old.x + u) u (u - (rates d t).brake)
              (stood_farther t (suc n) old.stood (moved d routes p t old (suc n)).stood (moved_stood t old (suc n)))
              (permitted_after (rates d t) (stretches d (given d routes p t (suc n))) end old.x old.v u slows (next_speed_permitted (rates d t) (stretches d (given d routes p t (suc n))) end old.x old.v _ now));
        }

    pub brakes_of : (t : TrainNo) → IsTrain d t → 1 ≤ (rates d t).brake
    brakes_of t named = go t.0 named.0 named.1
      where
        go : (n : ℕ) → 1 ≤ n → n ≤ length d.trains → 1 ≤ (rates d (record { 0 = n })).brake
        go zero low high = absurd (omega arith)
        go (suc i) low high = orderly.slows i high

    -- so it is with every train at every tick
    pub travels : (k : ℕ) (t : TrainNo) → Travels t (after d routes p k t)
    travels zero t = subst (Travels t) (sym (idle_at_first d routes p t)) (record { waits = λ z. (refl, refl); braking = λ l. absurd (omega arith) })
    travels (suc k) t =
        by_each_tick (λ old new. Travels t old → Travels t new) k t (λ h. h) (λ h. h)
        (λ named h. travels_on t named (after d routes p k t) (granted_after d routes p (pasts_at d routes p k) t) (brakes_of t named) h (next_grants (pasts_at d routes p k) t))
        (travels k t)

    -- the head never passes the end of authority
    pub within_authority : (k : ℕ) (t : TrainNo) → 1 ≤ (after d routes p k t).granted → may_stop (authority d routes p t (after d routes p k t)) (after d routes p k t).x ≡ true
    within_authority k t h =
        let s = after d routes p k t in
        permitted_stop (rates d t) (stretches d (given d routes p t s.granted)) (authority d routes p t s) s.x s.v (s.v - (rates d t).brake) s.x (omega arith) ((travels k t).braking h)

    -- which is no farther than the routes that are granted
    pub authority_on_track : (t : TrainNo) (s : TrainState) → IsAsFar (authority d routes p t s) (track_end (given d routes p t s.granted))
    authority_on_track t s = go (stop d routes p t s) refl
      where
        go : (o : Option PathNode) → stop d routes p t s ≡ o → IsAsFar (authority d routes p t s) (track_end (given d routes p t s.granted))
        go (Some q) e = subst (λ o. IsAsFar (option_or (option_map (λ (n : PathNode). n.event.place) o) (track_end (given d routes p t s.granted))) (track_end (given d routes p t s.granted))) (sym e)
            (track_as_far (given d routes p t s.granted) q.event.place (place_within t s.granted s.stood q e))
        go None e = subst (λ o. IsAsFar (option_or (option_map (λ (n : PathNode). n.event.place) o) (track_end (given d routes p t s.granted))) (track_end (given d routes p t s.granted))) (sym e)
            (as_far_same (track_end (given d routes p t s.granted)))

    -- so the head never passes the end of those
    pub within_track : (k : ℕ) (t : TrainNo) → 1 ≤ (after d routes p k t).granted → may_stop (track_end (given d routes p t (after d routes p k t).granted)) (after d routes p k t).x ≡ true
    within_track k t h =
        let s = after d routes p k t in
        may_stop_as_far (authority d routes p t s) (track_end (given d routes p t s.granted)) s.x (authority_on_track t s) (within_authority k t h)

    -- ---- no head is past its place

    before_place : (k : ℕ) (t : TrainNo) → may_stop (stop_place d routes p t (after d routes p k t)) (after d routes p k t).x ≡ true
    before_place k t = go (after d routes p k t).granted refl
      where
        go : (g : ℕ) → (after d routes p k t).granted ≡ g → may_stop (stop_place d routes p t (after d routes p k t)) (after d routes p k t).x ≡ true
        go zero e = subst (λ x. may_stop (stop_place d routes p t (after d routes p k t)) x ≡ true) (sym ((travels k t).waits e).0) (may_stop_at_zero (stop_place d routes p t (after d routes p k t)))
        go (suc g) e = may_stop_before_first (stop_place d routes p t (after d routes p k t)) (track_end (given d routes p t (after d routes p k t).granted)) (after d routes p k t).x (within_authority k t (omega arith))

    pub waits_at_place : (k : ℕ) (t : TrainNo) → WaitsAtItsPlace d routes p k t
    waits_at_place = before_place

    -- ---- nor past where a visit is made at which it has still to stand

    -- on the routes that are granted
    before_visit : (k : ℕ) (t : TrainNo) (j : ℕ) (n : PathNode) → entry None (made t (after d routes p k t).granted) j ≡ Some n → (after d routes p k t).stood < sum (take j (dwell_ticks d t)) → (after d routes p k t).x ≤ n.event.place
    before_visit k t j n e l = go (stop_before (dwell_ticks d t) (made t (after d routes p k t).granted) (after d routes p k t).stood j n (visits_in_order t (after d routes p k t).granted) e l)
      where
        go : ((a : PathNode) × (next_stop (dwell_ticks d t) (made t (after d routes p k t).granted) (after d routes p k t).stood ≡ Some a) × (a.event.place ≤ n.event.place)) → (after d routes p k t).x ≤ n.event.place
        go (a, q, up) = let x : (after d routes p k t).x ≤ a.event.place = leb-true _ _ (subst (λ o. may_stop (option_map (λ (s : PathNode). s.event.place) o) (after d routes p k t).x ≡ true) q (before_place k t)) in omega arith

    -- and on the whole path
    not_past : (k : ℕ) (t : TrainNo) (j : ℕ) (n : PathNode) → IsTrain d t → entry None (visits_of_train d routes p t) j ≡ Some n → (after d routes p k t).stood < sum (take j (dwell_ticks d t)) → (after d routes p k t).x ≤ n.event.place
    not_past k t j n named e l = at (whole_grown t (after d routes p k t).granted)
      where
        -- where the visit is not made on what is granted there is an end of the track before it
        in_track : (m : ℕ) → (after d routes p k t).granted ≡ m → (b : Bool) → list_any exits (given d routes p t (after d routes p k t).granted) ≡ b → entry None (made t (after d routes p k t).granted) j ≡ None
            → (after d routes p k t).x ≤ sum_by length_mm (given d routes p t (after d routes p k t).granted)
        in_track zero z b eb none = let x : (after d routes p k t).x ≡ 0 = ((travels k t).waits z).0 in omega arith
        in_track (suc m) z false eb none =
            leb-true _ _ (subst (λ o. may_stop o (after d routes p k t).x ≡ true) (authority_some (given d routes p t (after d routes p k t).granted) eb) (within_track k t (omega arith)))
        in_track (suc m) z true eb none =
            let all = take_all (after d routes p k t).granted (map (route_at routes) (p.path t)) (orderly.exit_last t (after d routes p k t).granted named eb) in
            absurd (apart n (sym (ap (λ rs. entry None (visits_on (train_of d t).visits (path_nodes rs)) j) all) ∙ none) e)

        at : ((more : List PathNode) × AllGrown more (made t (after d routes p k t).granted) (visits_of_train d routes p t) × ((s : PathNode) → In s more → sum_by length_mm (given d routes p t (after d routes p k t).granted) ≤ s.event.place)) → (after d routes p k t).x ≤ n.event.place
        at (more, grown, past) = go (entry None (made t (after d routes p k t).granted) j) refl (grown_entry more (made t (after d routes p k t).granted) (visits_of_train d routes p t) j grown)
          where
            go : (o : Option PathNode) → entry None (made t (after d routes p k t).granted) j ≡ o → Grown more o (entry None (visits_of_train d routes p t) j) → (after d routes p k t).x ≤ n.event.place
            go (Some a) q h = subst (λ (s : PathNode). (after d routes p k t).x ≤ s.event.place) (same_some a n (sym h ∙ e)) (before_visit k t j a q l)
            go None q h =
                let far = past n (subst (λ o. Grown more None o) e h) in
                let near = in_track (after d routes p k t).granted refl (list_any exits (given d routes p t (after d routes p k t).granted)) refl q in
                omega arith

    -- a tick that it stands for a visit it stands there
    there : (k : ℕ) (t : TrainNo) (j : ℕ) (n : PathNode) → entry None (visits_of_train d routes p t) j ≡ Some n → sum (take (j - 1) (dwell_ticks d t)) ≤ (after d routes p k t).stood → (after d routes p k t).stood < sum (take j (dwell_ticks d t))
        → (after d routes p k t).stood < (after d routes p (suc k) t).stood → ((after d routes p k t).x ≡ n.event.place) × ((after d routes p (suc k) t).x ≡ n.event.place)
    there k t j n e low high more_stood = at (whole_grown t (after d routes p (suc k) t).granted) (stood_there k t more_stood)
      where
        at : ((more : List PathNode) × AllGrown more (made t (after d routes p (suc k) t).granted) (visits_of_train d routes p t) × ((s : PathNode) → In s more → sum_by length_mm (given d routes p t (after d routes p (suc k) t).granted) ≤ s.event.place))
            → (stop_place d routes p t (seen d routes p k t) ≡ Some (after d routes p k t).x) × ((after d routes p (suc k) t).x ≡ (after d routes p k t).x) → ((after d routes p k t).x ≡ n.event.place) × ((after d routes p (suc k) t).x ≡ n.event.place)
        at (more, grown, past) (place, stays) = go (entry None (made t (after d routes p (suc k) t).granted) j) refl (grown_entry more (made t (after d routes p (suc k) t).granted) (visits_of_train d routes p t) j grown)
          where
            visit : option_map (λ (s : PathNode). s.event.place) (entry None (made t (after d routes p (suc k) t).granted) j) ≡ Some (after d routes p k t).x
            visit = sym (ap (λ o. option_map (λ (s : PathNode). s.event.place) o) (stop_is (dwell_ticks d t) (made t (after d routes p (suc k) t).granted) (after d routes p k t).stood j low high)) ∙ place

            go : (o : Option PathNode) → entry None (made t (after d routes p (suc k) t).granted) j ≡ o → Grown more o (entry None (visits_of_train d routes p t) j) → ((after d routes p k t).x ≡ n.event.place) × ((after d routes p (suc k) t).x ≡ n.event.place)
            go None q h = absurd (no_number (after d routes p k t).x (subst (λ o. option_map (λ (s : PathNode). s.event.place) o ≡ Some (after d routes p k t).x) q visit))
            go (Some a) q h =
                let at_a : a.event.place ≡ (after d routes p k t).x = same_number a.event.place (after d routes p k t).x (subst (λ o. option_map (λ (s : PathNode). s.event.place) o ≡ Some (after d routes p k t).x) q visit) in
                let at_n : a.event.place ≡ n.event.place = ap (λ (s : PathNode). s.event.place) (same_some a n (sym h ∙ e)) in
                (sym at_a ∙ at_n, stays ∙ sym at_a ∙ at_n)

    pub stands_at_visit : (k : ℕ) (t : TrainNo) → IsTrain d t → (j : ℕ) (n : PathNode) → entry None (visits_of_train d routes p t) j ≡ Some n → StandsAtVisit d routes p k t j n
    stands_at_visit k t named j n e = record { not_past = not_past k t j n named e; there = there k t j n e }

    -- ---- authority never falls back

    pub authority_grows : (k : ℕ) (t : TrainNo) → AuthorityGrows d routes p k t
    authority_grows k t =
        by_each_tick (λ old new. IsAsFar (authority d routes p t old) (authority d routes p t new)) k t (as_far_same (authority d routes p t idle)) (as_far_same (authority d routes p t (after d routes p k t)))
        (λ named. moves named (after d routes p k t) (granted_after d routes p (pasts_at d routes p k) t) (next_grants (pasts_at d routes p k) t))
      where
        grants : IsTrain d t → (old : TrainState) (n : ℕ) → (n ≡ old.granted) ⊎ (n ≡ old.granted + 1) → IsAsFar (end_on t (given d routes p t old.granted) old.stood) (end_on t (given d routes p t n) old.stood)
        grants named old n (inl e) = subst (λ g. IsAsFar (end_on t (given d routes p t old.granted) old.stood) (end_on t (given d routes p t g) old.stood)) (sym e) (as_far_same (end_on t (given d routes p t old.granted) old.stood))
        grants named old n (inr e) = subst (λ g. IsAsFar (end_on t (given d routes p t old.granted) old.stood) (end_on t (given d routes p t g) old.stood)) (sym e) (granted_farther t old.granted old.stood named)

        moves : IsTrain d t → (old : TrainState) (n : ℕ) → (n ≡ old.granted) ⊎ (n ≡ old.granted + 1) → IsAsFar (authority d routes p t old) (authority d routes p t (moved d routes p t old n))
        moves named old zero e = as_far_same (authority d routes p t old)
        moves named old (suc n) e =
            as_far_trans (end_on t (given d routes p t old.granted) old.stood) (end_on t (given d routes p t (suc n)) old.stood) (end_on t (given d routes p t (suc n)) (moved d routes p t old (suc n)).stood)
            (grants named old (suc n) e) (stood_farther t (suc n) old.stood (moved d routes p t old (suc n)).stood (moved_stood t old (suc n)))
