-- Two dispatches, of which the second may know more commands and more trains: up to a train's horizon it moves alike under both.
use Rattle.std.proofs.Common.{◌≡◌, ℕ, zero, suc, ◌+◌, ◌-◌, ◌≤◌, ◌<◌, ◌⊎◌, inl, inr, Bool, true, false, cond, ◌&&◌, if◌then◌else◌, nat_le, nat_lt, List, [], ◌∷◌, ◌++◌, map, length, take, slice_get, sum_by, Option, None, Some, option_map, refl, sym, ap, ap₂, subst, ◌∙◌, arith, leb-true, le-leb, eq-eqb, true≢false}
use Rattle.std.specs.Option.{option_or}
use Rattle.std.proofs.lemmas.List.{map-append, take-append-le}
use Rattle.rail_base.specs.declared.station.Station.{Station}
use Rattle.rail_base.specs.declared.station.SectionNo.{SectionNo}
use Rattle.rail_base.specs.declared.station.TrainNo.{TrainNo}
use Rattle.rail_base.specs.declared.route.Route.{Route}
use Rattle.rail_base.specs.declared.route.RouteNo.{RouteNo}
use Rattle.rail_base.specs.declared.plan.Command.{Command}
use Rattle.rail_base.specs.declared.state.TrainState.{TrainState}
use Rattle.rail_base.specs.declared.state.PathNode.{PathNode}
use Rattle.rail_base.specs.Numbering.{before_first}
use Rattle.rail_spec.specs.Plans.{route_at, shared, release_offset, length_mm, is_route}
use Rattle.rail_base.specs.Stations.{train_of, train_length, dwell_ticks}
use Rattle.rail_spec.specs.Dispatches.{state_of, ago, past_of, stretches, rates, Dispatch, routes_before, is_granted, has_released, has_cleared, is_ready, granted_with, granted_after, moved, pasts_at, state_at, track_end, is_at}
use Rattle.rail_spec.specs.Motion.{next_speed}
use Rattle.rail_spec.specs.Places.{path_nodes, visits_on, next_stop}
use Rattle.rail_base.proofs.Members.{In, and_left, and_right, and_both, list_all_at, below_or_not, false_unless, same_bool, not_less}
use Rattle.rail_laws.proofs.Running.{Later, Moves, Idles, after_tick, ago_later, happens_on, run_later, granted_after_more, granted_cleared, stays, idle_at_first}
use Rattle.cone_spec.proofs.Releasing.{ticks_of, event_of, out, released_is, released_granted}
use Rattle.rail_base.proofs.Lists.{list_all_from, length-map}

-- ---- lists

pub at_place : {X : Type 0} (xs : List X) (i : ℕ) → i < length xs → (x : X) × (slice_get xs i ≡ Some x) × In x xs
at_place [] i h = absurd (omega arith)
at_place (x ∷ xs) zero h = (x, refl, inl refl)
at_place (x ∷ xs) (suc i) h = let k = at_place xs i (omega arith) in (k.0, k.1, inr k.2)

pub slice_get-append : {X : Type 0} (xs ys : List X) (i : ℕ) → i < length xs → slice_get (xs ++ ys) i ≡ slice_get xs i
slice_get-append [] ys i h = absurd (omega arith)
slice_get-append (x ∷ xs) ys zero h = refl
slice_get-append (x ∷ xs) ys (suc i) h = slice_get-append xs ys i (omega arith)

pub slice_get-end : {X : Type 0} (xs : List X) (i : ℕ) → length xs ≤ i → slice_get xs i ≡ None
slice_get-end [] i h = refl
slice_get-end (x ∷ xs) zero h = absurd (omega arith)
slice_get-end (x ∷ xs) (suc i) h = slice_get-end xs i (omega arith)

-- the first that passes is the same in a longer list, or is past the shorter one
pub before_first-append : {X : Type 0} (test : X → Bool) (xs ys : List X) →
    (before_first test (xs ++ ys) ≡ before_first test xs) ⊎ ((length xs ≤ length (before_first test (xs ++ ys))) × (length xs ≤ length (before_first test xs)))
before_first-append test [] ys = inr (omega arith, omega arith)
before_first-append {X} test (x ∷ xs) ys = go (test x) (before_first-append test xs ys)
  where
    go : (b : Bool) → (before_first test (xs ++ ys) ≡ before_first test xs) ⊎ ((length xs ≤ length (before_first test (xs ++ ys))) × (length xs ≤ length (before_first test xs)))
        → (cond b [] (x ∷ before_first test (xs ++ ys)) ≡ cond b [] (x ∷ before_first test xs)) ⊎ ((suc (length xs) ≤ length (cond b [] (x ∷ before_first test (xs ++ ys)))) × (suc (length xs) ≤ length (cond b [] (x ∷ before_first test xs))))
    go true k = inl refl
    go false (inl e) = inl (ap (λ zs. x ∷ zs) e)
    go false (inr (a, b)) = inr (omega arith, omega arith)

pub before_first-in : {X : Type 0} (test : X → Bool) (xs : List X) (x : X) → In x xs → test x ≡ true → length (before_first test xs) < length xs
before_first-in test [] x m h = absurd m
before_first-in {X} test (y ∷ ys) x m h = go (test y) refl m (λ k. before_first-in test ys x k h)
  where
    go : (b : Bool) → test y ≡ b → In x (y ∷ ys) → (In x ys → length (before_first test ys) < length ys) → length (cond b [] (y ∷ before_first test ys)) < suc (length ys)
    go true e k later = omega arith
    go false e (inl k) later = absurd (true≢false (sym h ∙ sym (ap test k) ∙ e))
    go false e (inr k) later = let l = later k in omega arith

module _ (d : Station) (routes : List Route) (p q : Dispatch) (h : TrainNo → ℕ) where
  -- ---- what has to hold of the two

  -- the first command past the train's prefix waits, at tick k, for one that hasn't released a section of it
  pub record Held (k : ℕ) (t : TrainNo) (w : RouteNo) : Type 0 where
    pub holder : Command
    pub section : SectionNo
    pub before : In holder (q.before (record { train = t; route = w }))
    pub shares : In section (shared (route_at routes holder.route) (route_at routes w))
    pub near : k ≤ h holder.train
    pub unreleased : has_released d routes p (pasts_at d routes p k) holder section ≡ false

  pub record Meeting : Type 0 where
    -- up to its horizon each tick concerns a train, and then none does; under the second dispatch each tick concerns all
    pub concerned : (k : ℕ) (t : TrainNo) → k ≤ h t → p.concerns k t ≡ true
    pub left : (k : ℕ) (t : TrainNo) → h t < k → p.concerns k t ≡ false
    pub always : (k : ℕ) (t : TrainNo) → q.concerns k t ≡ true
    -- a train's path under the first is the prefix of its path under the second
    pub rest : TrainNo → List RouteNo
    pub prefix : (t : TrainNo) → q.path t ≡ p.path t ++ rest t
    -- the commands of the prefix wait for the same ones
    pub waits_for : (t : TrainNo) (r : RouteNo) (e : Command) → In r (p.path t) → In e (q.before (record { train = t; route = r })) → In e (p.before (record { train = t; route = r }))
    pub waits_too : (t : TrainNo) (r : RouteNo) (e : Command) → In r (p.path t) → In e (p.before (record { train = t; route = r })) → In e (q.before (record { train = t; route = r }))

  pub record Fits : Type 0 where
    pub meeting : Meeting
    pub open meeting use *
    -- they are all granted by the horizon
    pub all_granted : (t : TrainNo) → length (p.path t) ≤ (state_of (state_at d routes p (h t)) t).granted
    -- and what comes after the prefix is held up
    pub holder_fits : (t : TrainNo) (w : RouteNo) (k : ℕ) → k < h t → slice_get (q.path t) (length (p.path t)) ≡ Some w → (state_of (state_at d routes p k) t).granted ≡ length (p.path t) → Held k t w

  -- ---- what follows

  -- up to its horizon the train has been through the same; past it the second run goes on; and no command past the prefix is granted
  pub record Agree (k : ℕ) (t : TrainNo) : Type 0 where
    pub same_past : k ≤ h t → past_of (pasts_at d routes q k) t ≡ past_of (pasts_at d routes p k) t
    pub later_ago : (n : ℕ) → Later d routes p (ago n (past_of (pasts_at d routes p k) t)) (ago n (past_of (pasts_at d routes q k) t))
    pub same : k ≤ h t → state_of (state_at d routes q k) t ≡ state_of (state_at d routes p k) t
    pub later : Later d routes p (state_of (state_at d routes p k) t) (state_of (state_at d routes q k) t)
    pub few : (state_of (state_at d routes p k) t).granted ≤ length (p.path t)

  and_false : (a b : Bool) → a ≡ false → (a && b) ≡ false
  and_false true b e = absurd (true≢false e)
  and_false false b e = refl

  -- what is released under the first is released under the second; and where the states are the same, only that
  module _ (fits : Meeting) where
    abbrev way : TrainNo → RouteNo → List RouteNo
    way t r = before_first (λ x. is_route x r) (p.path t ++ fits.rest t)

    abbrev Ways : Command → Type 0
    Ways e = (way e.train e.route ≡ before_first (λ x. is_route x e.route) (p.path e.train)) ⊎ ((length (p.path e.train) ≤ length (way e.train e.route)) × (length (p.path e.train) ≤ length (before_first (λ x. is_route x e.route) (p.path e.train))))

    before_is : (e : Command) → way e.train e.route ≡ before_first (λ x. is_route x e.route) (p.path e.train) → routes_before d routes q e ≡ routes_before d routes p e
    before_is e i = ap (map (route_at routes)) (ap (before_first (λ x. is_route x e.route)) (fits.prefix e.train) ∙ i)

    pub released_later : (k : ℕ) (e : Command) (z : SectionNo) → Agree k e.train → has_released d routes p (pasts_at d routes p k) e z ≡ true → has_released d routes q (pasts_at d routes q k) e z ≡ true
    released_later k e z a r = go (before_first-append (λ x. is_route x e.route) (p.path e.train) (fits.rest e.train))
      where
        go : Ways e → has_released d routes q (pasts_at d routes q k) e z ≡ true
        go (inr (_, m)) =
            let g = released_granted d routes p k e z r in
            let l = length-map (route_at routes) (before_first (λ x. is_route x e.route) (p.path e.train)) in
            let f = a.few in
            absurd (omega arith)
        go (inl i) =
            let first = sym (released_is d routes p (pasts_at d routes p k) e z) ∙ r in
            let on = happens_on d routes p (ago (ticks_of d routes e z) (past_of (pasts_at d routes p k) e.train)) (ago (ticks_of d routes e z) (past_of (pasts_at d routes q k) e.train)) (event_of d routes e z (routes_before d routes p e)) (a.later_ago (ticks_of d routes e z)) first in
            released_is d routes q (pasts_at d routes q k) e z ∙ ap (λ rs. out d routes e z rs (past_of (pasts_at d routes q k) e.train)) (before_is e i) ∙ on

    pub released_same : (k : ℕ) (e : Command) (z : SectionNo) → Agree k e.train → k ≤ h e.train → has_released d routes q (pasts_at d routes q k) e z ≡ has_released d routes p (pasts_at d routes p k) e z
    released_same k e z a n = go (before_first-append (λ x. is_route x e.route) (p.path e.train) (fits.rest e.train))
      where
        unreleased : (o : Dispatch) → (state_of (state_at d routes o k) e.train).granted ≤ length (routes_before d routes o e) → has_released d routes o (pasts_at d routes o k) e z ≡ false
        unreleased o few = false_unless _ (λ t. let l = released_granted d routes o k e z t in absurd (omega arith))

        go : Ways e → has_released d routes q (pasts_at d routes q k) e z ≡ has_released d routes p (pasts_at d routes p k) e z
        go (inl i) = released_is d routes q (pasts_at d routes q k) e z ∙ ap₂ (out d routes e z) (before_is e i) (a.same_past n) ∙ sym (released_is d routes p (pasts_at d routes p k) e z)
        go (inr (l, m)) =
            let f = a.few in
            let g : (state_of (state_at d routes q k) e.train).granted ≡ (state_of (state_at d routes p k) e.train).granted = ap (λ (s : TrainState). s.granted) (a.same n) in
            let lp = length-map (route_at routes) (before_first (λ x. is_route x e.route) (p.path e.train)) in
            let lq = length-map (route_at routes) (before_first (λ x. is_route x e.route) (q.path e.train)) in
            let path : length (before_first (λ x. is_route x e.route) (q.path e.train)) ≡ length (way e.train e.route) = ap (λ xs. length (before_first (λ x. is_route x e.route) xs)) (fits.prefix e.train) in
            unreleased q (omega arith) ∙ sym (unreleased p (omega arith))

    -- past its horizon a train's past stays
    past_stays : (k : ℕ) (t : TrainNo) → h t ≤ k → past_of (pasts_at d routes p (suc k)) t ≡ past_of (pasts_at d routes p k) t
    past_stays k t n = elim (after_tick d routes p k t) [
      | inl m ↦ m.past_by_rule ∙ ap (λ b. if b then moved d routes p t (state_of (state_at d routes p k) t) (granted_after d routes p (pasts_at d routes p k) t) ∷ past_of (pasts_at d routes p k) t else past_of (pasts_at d routes p k) t) (fits.left (suc k) t (omega arith))
      | inr i ↦ i.new_past ∙ sym i.old_past
    ]

    past_stays_by : (m k : ℕ) (t : TrainNo) → h t ≤ k → past_of (pasts_at d routes p (k + m)) t ≡ past_of (pasts_at d routes p k) t
    past_stays_by zero k t n = let z : k + 0 ≡ k = omega arith in ap (λ i. past_of (pasts_at d routes p i) t) z
    past_stays_by (suc m) k t n =
        let z : k + suc m ≡ suc (k + m) = omega arith in
        ap (λ i. past_of (pasts_at d routes p i) t) z ∙ past_stays (k + m) t (omega arith) ∙ past_stays_by m k t n

    pub past_stays_to : (k l : ℕ) (t : TrainNo) → h t ≤ k → k ≤ l → past_of (pasts_at d routes p l) t ≡ past_of (pasts_at d routes p k) t
    past_stays_to k l t n m = let z : k + (l - k) ≡ l = omega arith in ap (λ i. past_of (pasts_at d routes p i) t) (sym z) ∙ past_stays_by (l - k) k t n

    -- past its horizon a train stays
    stays_by : (m k : ℕ) (t : TrainNo) → h t ≤ k → state_of (state_at d routes p (k + m)) t ≡ state_of (state_at d routes p k) t
    stays_by zero k t n = let z : k + 0 ≡ k = omega arith in ap (λ i. state_of (state_at d routes p i) t) z
    stays_by (suc m) k t n =
        let z : k + suc m ≡ suc (k + m) = omega arith in
        ap (λ i. state_of (state_at d routes p i) t) z ∙ stays d routes p (k + m) t (fits.left (suc (k + m)) t (omega arith)) ∙ stays_by m k t n

    pub stays_to : (k l : ℕ) (t : TrainNo) → h t ≤ k → k ≤ l → state_of (state_at d routes p l) t ≡ state_of (state_at d routes p k) t
    stays_to k l t n m = let z : k + (l - k) ≡ l = omega arith in ap (λ i. state_of (state_at d routes p i) t) (sym z) ∙ stays_by (l - k) k t n

    pub ready_in_second : (k : ℕ) (agree : (t : TrainNo) → Agree k t) (t : TrainNo) (r : RouteNo) → In r (p.path t) → is_ready d routes p (pasts_at d routes p k) (record { train = t; route = r }) ≡ true → is_ready d routes q (pasts_at d routes q k) (record { train = t; route = r }) ≡ true
    ready_in_second k agree t r m ready =
        list_all_from _ (q.before (record { train = t; route = r })) (λ e i.
        list_all_from _ (shared (route_at routes e.route) (route_at routes r)) (λ z j.
        released_later k e z (agree e.train)
        (list_all_at (has_released d routes p (pasts_at d routes p k) e) _ z (list_all_at (has_cleared d routes p (pasts_at d routes p k) (record { train = t; route = r })) (p.before (record { train = t; route = r })) e ready (fits.waits_for t r e m i)) j)))

    -- ---- the moves of a tick

    pub given_same : (t : TrainNo) (n : ℕ) → n ≤ length (p.path t) → take n (map (route_at routes) (q.path t)) ≡ take n (map (route_at routes) (p.path t))
    given_same t n l =
        let e = length-map (route_at routes) (p.path t) in
        ap (λ xs. take n (map (route_at routes) xs)) (fits.prefix t) ∙ ap (take n) (map-append (route_at routes) (p.path t) (fits.rest t)) ∙ take-append-le n (map (route_at routes) (p.path t)) (map (route_at routes) (fits.rest t)) (omega arith)

    pub moved_same : (t : TrainNo) (s : TrainState) (n : ℕ) → n ≤ length (p.path t) → moved d routes q t s n ≡ moved d routes p t s n
    moved_same t s zero l = refl
    moved_same t s (suc n) l = ap by_routes (given_same t (suc n) l)
      where
        -- how it goes on or stands is seen from the routes that it is granted
        by_routes : List Route → TrainState
        by_routes given =
            let place = option_map (λ (n : PathNode). n.event.place) (next_stop (dwell_ticks d t) (visits_on (train_of d t).visits (path_nodes given)) s.stood) in
            let u = next_speed (rates d t) (stretches d given) (option_or place (track_end given)) s.x s.v in
            record { granted = suc n; x = s.x + u; v = u; stood = if is_at place s.x then s.stood + 1 else s.stood }

    pub moved_granted : (t : TrainNo) (s : TrainState) (n : ℕ) → s.granted ≤ n → (moved d routes p t s n).granted ≤ n
    moved_granted t s zero l = l
    moved_granted t s (suc n) l = omega arith

    -- ---- the claim at the next tick rests on the claim at this one alone

    pub step : (k : ℕ) (agree : (t : TrainNo) → Agree k t) → ((t : TrainNo) → k < h t → (granted_after d routes q (pasts_at d routes q k) t ≡ granted_after d routes p (pasts_at d routes p k) t) × (granted_after d routes p (pasts_at d routes p k) t ≤ length (p.path t))) → (t : TrainNo) → Agree (suc k) t
    step k agree same_grants t = go (below_or_not k (h t))
      where
        go : (k < h t) ⊎ (h t ≤ k) → Agree (suc k) t
        go (inr past) =
            let frozen : state_of (state_at d routes p (suc k)) t ≡ state_of (state_at d routes p k) t = stays d routes p k t (fits.left (suc k) t (omega arith)) in
            let on = run_later d routes q k t in
            let was = (agree t).later in
            record {
              same_past = λ l. absurd (omega arith);
              later_ago = λ n. (let a = (agree t).later_ago n in let b = ago_later d routes q k n t in
                  subst (λ past. Later d routes p (ago n past) (ago n (past_of (pasts_at d routes q (suc k)) t))) (sym (past_stays k t past)) (record { granted = omega arith; x = omega arith }));
              same = λ l. absurd (omega arith);
              later = subst (λ s. Later d routes p s (state_of (state_at d routes q (suc k)) t)) (sym frozen) (record { granted = omega arith; x = omega arith });
              few = subst (λ (s : TrainState). s.granted ≤ length (p.path t)) (sym frozen) ((agree t).few);
            }
        go (inl near) = both (after_tick d routes p k t) (after_tick d routes q k t)
          where
            grants : (granted_after d routes q (pasts_at d routes q k) t ≡ granted_after d routes p (pasts_at d routes p k) t) × (granted_after d routes p (pasts_at d routes p k) t ≤ length (p.path t))
            grants = same_grants t near

            build : past_of (pasts_at d routes q (suc k)) t ≡ past_of (pasts_at d routes p (suc k)) t → state_of (state_at d routes q (suc k)) t ≡ state_of (state_at d routes p (suc k)) t → (state_of (state_at d routes p (suc k)) t).granted ≤ length (p.path t) → Agree (suc k) t
            build w e f = record {
              same_past = λ l. w;
              later_ago = λ n. subst (λ past. Later d routes p (ago n (past_of (pasts_at d routes p (suc k)) t)) (ago n past)) (sym w) (record { granted = omega arith; x = omega arith });
              same = λ l. e;
              later = subst (Later d routes p (state_of (state_at d routes p (suc k)) t)) (sym e) (record { granted = omega arith; x = omega arith });
              few = f;
            }

            both : Moves d routes p k t ⊎ Idles d routes p k t → Moves d routes q k t ⊎ Idles d routes q k t → Agree (suc k) t
            both (inl m) (inr i) = let a = m.first in let b = m.last in let c = i.out a in absurd (omega arith)
            both (inr i) (inl m) = let a = m.first in let b = m.last in let c = i.out a in absurd (omega arith)
            both (inr i) (inr j) = build (j.new_past ∙ sym i.new_past) (j.new ∙ sym i.new) (subst (λ (s : TrainState). s.granted ≤ length (p.path t)) (sym i.new) (omega arith))
            both (inl m) (inl n) = build (past_in_q ∙ ap₂ (λ (s : TrainState) (past : List TrainState). s ∷ past) state ((agree t).same_past (omega arith)) ∙ sym past_in_p) (in_q ∙ state ∙ sym in_p) (subst (λ (s : TrainState). s.granted ≤ length (p.path t)) (sym in_p) few)
              where
                in_p : state_of (state_at d routes p (suc k)) t ≡ moved d routes p t (state_of (state_at d routes p k) t) (granted_after d routes p (pasts_at d routes p k) t)
                in_p = m.by_rule ∙ ap (λ b. if b then moved d routes p t (state_of (state_at d routes p k) t) (granted_after d routes p (pasts_at d routes p k) t) else state_of (state_at d routes p k) t) (fits.concerned (suc k) t near)

                in_q : state_of (state_at d routes q (suc k)) t ≡ moved d routes q t (state_of (state_at d routes q k) t) (granted_after d routes q (pasts_at d routes q k) t)
                in_q = n.by_rule ∙ ap (λ b. if b then moved d routes q t (state_of (state_at d routes q k) t) (granted_after d routes q (pasts_at d routes q k) t) else state_of (state_at d routes q k) t) (fits.always (suc k) t)

                past_in_p : past_of (pasts_at d routes p (suc k)) t ≡ moved d routes p t (state_of (state_at d routes p k) t) (granted_after d routes p (pasts_at d routes p k) t) ∷ past_of (pasts_at d routes p k) t
                past_in_p = m.past_by_rule ∙ ap (λ b. if b then moved d routes p t (state_of (state_at d routes p k) t) (granted_after d routes p (pasts_at d routes p k) t) ∷ past_of (pasts_at d routes p k) t else past_of (pasts_at d routes p k) t) (fits.concerned (suc k) t near)

                past_in_q : past_of (pasts_at d routes q (suc k)) t ≡ moved d routes q t (state_of (state_at d routes q k) t) (granted_after d routes q (pasts_at d routes q k) t) ∷ past_of (pasts_at d routes q k) t
                past_in_q = n.past_by_rule ∙ ap (λ b. if b then moved d routes q t (state_of (state_at d routes q k) t) (granted_after d routes q (pasts_at d routes q k) t) ∷ past_of (pasts_at d routes q k) t else past_of (pasts_at d routes q k) t) (fits.always (suc k) t)

                state : moved d routes q t (state_of (state_at d routes q k) t) (granted_after d routes q (pasts_at d routes q k) t) ≡ moved d routes p t (state_of (state_at d routes p k) t) (granted_after d routes p (pasts_at d routes p k) t)
                state = ap₂ (moved d routes q t) ((agree t).same (omega arith)) grants.0 ∙ moved_same t (state_of (state_at d routes p k) t) (granted_after d routes p (pasts_at d routes p k) t) grants.1

                few : (moved d routes p t (state_of (state_at d routes p k) t) (granted_after d routes p (pasts_at d routes p k) t)).granted ≤ length (p.path t)
                few = let l = moved_granted t (state_of (state_at d routes p k) t) _ (granted_after_more d routes p (pasts_at d routes p k) t) in let g = grants.1 in omega arith

    pub at_first : (t : TrainNo) → Agree zero t
    at_first t =
        let a = idle_at_first d routes p t in
        let b = idle_at_first d routes q t in
        let same : past_of (pasts_at d routes q zero) t ≡ past_of (pasts_at d routes p zero) t = refl in
        record {
          same_past = λ l. same;
          later_ago = λ n. record { granted = omega arith; x = omega arith };
          same = λ l. b ∙ sym a;
          later = subst (Later d routes p (state_of (state_at d routes p zero) t)) (a ∙ sym b) (record { granted = omega arith; x = omega arith });
          few = subst (λ (s : TrainState). s.granted ≤ length (p.path t)) (sym a) (omega arith);
        }

  module _ (fits : Fits) where
    -- ---- readiness

    module _ (k : ℕ) (agree : (t : TrainNo) → Agree k t) where
      -- a command of the prefix that is ready under the second is so under the first, since it is granted there in the end
      ready_in_first : (t : TrainNo) (r : RouteNo) → k ≤ h t → In r (p.path t) → is_ready d routes q (pasts_at d routes q k) (record { train = t; route = r }) ≡ true → is_ready d routes p (pasts_at d routes p k) (record { train = t; route = r }) ≡ true
      ready_in_first t r near m ready =
          list_all_from _ (p.before (record { train = t; route = r })) (λ e i.
          list_all_from _ (shared (route_at routes e.route) (route_at routes r)) (λ z j. go e z i j (below_or_not (h e.train) k)))
        where
          c : Command
          c = record { train = t; route = r }

          in_end : is_granted d routes p (state_at d routes p (h t)) (record { train = t; route = r }) ≡ true
          in_end =
              let b = before_first-in (λ x. is_route x r) (p.path t) r m (eq-eqb r.0 r.0 refl) in
              let l = length-map (route_at routes) (before_first (λ x. is_route x r) (p.path t)) in
              let g = fits.all_granted t in
              le-leb _ _ (omega arith)

          go : (e : Command) (z : SectionNo) → In e (p.before (record { train = t; route = r })) → In z (shared (route_at routes e.route) (route_at routes r)) → (h e.train < k) ⊎ (k ≤ h e.train) → has_released d routes p (pasts_at d routes p k) e z ≡ true
          go e z i j (inr n) =
              sym (released_same fits.meeting k e z (agree e.train) n) ∙
              list_all_at (has_released d routes q (pasts_at d routes q k) e) _ z (list_all_at (has_cleared d routes q (pasts_at d routes q k) (record { train = t; route = r })) (q.before (record { train = t; route = r })) e ready (fits.waits_too t r e m i)) j
          go e z i j (inl n) =
              let cleared = granted_cleared d routes p (h t) (record { train = t; route = r }) in_end in
              released_is d routes p (pasts_at d routes p k) e z ∙ ap (out d routes e z (routes_before d routes p e)) (sym (past_stays_to fits.meeting k (h t) e.train (omega arith) near)) ∙ sym (released_is d routes p (pasts_at d routes p (h t)) e z) ∙ cleared.each e z i j

      -- ---- the grants of a tick

      granted_same : (t : TrainNo) → k < h t → (granted_after d routes q (pasts_at d routes q k) t ≡ granted_after d routes p (pasts_at d routes p k) t) × (granted_after d routes p (pasts_at d routes p k) t ≤ length (p.path t))
      granted_same t near = go (below_or_not (state_of (state_at d routes p k) t).granted (length (p.path t)))
        where
          state : state_of (state_at d routes q k) t ≡ state_of (state_at d routes p k) t
          state = (agree t).same (omega arith)

          granted : (state_of (state_at d routes q k) t).granted ≡ (state_of (state_at d routes p k) t).granted
          granted = ap (λ (s : TrainState). s.granted) state

          one_more : (b : Bool) (g n : ℕ) → g < n → (if b then g + 1 else g) ≤ n
          one_more true g n l = omega arith
          one_more false g n l = omega arith

          at_end : (o : Option RouteNo) → slice_get (q.path t) (length (p.path t)) ≡ o → (state_of (state_at d routes p k) t).granted ≡ length (p.path t) → granted_with d routes q (pasts_at d routes q k) t o ≡ (state_of (state_at d routes q k) t).granted
          at_end None e g = refl
          at_end (Some w) e g =
              let holder_fits = fits.holder_fits t w k near e g in
              let out_of : has_released d routes q (pasts_at d routes q k) holder_fits.holder holder_fits.section ≡ false = released_same fits.meeting k holder_fits.holder holder_fits.section (agree holder_fits.holder.train) holder_fits.near ∙ holder_fits.unreleased in
              ap (λ b. if b then (state_of (state_at d routes q k) t).granted + 1 else (state_of (state_at d routes q k) t).granted) (waiting holder_fits out_of (is_ready d routes q (pasts_at d routes q k) (record { train = t; route = w })) refl)
            where
              waiting : (x : Held k t w) → has_released d routes q (pasts_at d routes q k) x.holder x.section ≡ false → (b : Bool) → is_ready d routes q (pasts_at d routes q k) (record { train = t; route = w }) ≡ b → is_ready d routes q (pasts_at d routes q k) (record { train = t; route = w }) ≡ false
              waiting x isnt false r = r
              waiting x isnt true r = absurd (true≢false (sym (list_all_at (has_released d routes q (pasts_at d routes q k) x.holder) _ x.section (list_all_at (has_cleared d routes q (pasts_at d routes q k) (record { train = t; route = w })) (q.before (record { train = t; route = w })) x.holder r x.before) x.shares) ∙ isnt))

          go : ((state_of (state_at d routes p k) t).granted < length (p.path t)) ⊎ (length (p.path t) ≤ (state_of (state_at d routes p k) t).granted)
              → (granted_after d routes q (pasts_at d routes q k) t ≡ granted_after d routes p (pasts_at d routes p k) t) × (granted_after d routes p (pasts_at d routes p k) t ≤ length (p.path t))
          go (inl l) = found (at_place (p.path t) (state_of (state_at d routes p k) t).granted l)
            where
              found : ((r : RouteNo) × (slice_get (p.path t) (state_of (state_at d routes p k) t).granted ≡ Some r) × In r (p.path t)) → (granted_after d routes q (pasts_at d routes q k) t ≡ granted_after d routes p (pasts_at d routes p k) t) × (granted_after d routes p (pasts_at d routes p k) t ≤ length (p.path t))
              found (r, e, m) =
                  let in_p : granted_after d routes p (pasts_at d routes p k) t ≡ granted_with d routes p (pasts_at d routes p k) t (Some r) = ap (granted_with d routes p (pasts_at d routes p k) t) e in
                  let in_q : granted_after d routes q (pasts_at d routes q k) t ≡ granted_with d routes q (pasts_at d routes q k) t (Some r) =
                  ap (granted_with d routes q (pasts_at d routes q k) t) (ap₂ slice_get (fits.prefix t) granted ∙ slice_get-append (p.path t) (fits.rest t) _ l ∙ e) in
                  let ready : is_ready d routes q (pasts_at d routes q k) (record { train = t; route = r }) ≡ is_ready d routes p (pasts_at d routes p k) (record { train = t; route = r }) =
                  same_bool _ _ (ready_in_first t r (omega arith) m) (ready_in_second fits.meeting k agree t r m) in (
                    in_q ∙ ap₂ (λ (b : Bool) g. if b then g + 1 else g) ready granted ∙ sym in_p,
                    subst (λ n. n ≤ length (p.path t)) (sym in_p) (one_more (is_ready d routes p (pasts_at d routes p k) (record { train = t; route = r })) _ _ l),
                  )
          go (inr l) =
              let few = (agree t).few in
              let full : (state_of (state_at d routes p k) t).granted ≡ length (p.path t) = omega arith in
              let in_p : granted_after d routes p (pasts_at d routes p k) t ≡ (state_of (state_at d routes p k) t).granted = ap (granted_with d routes p (pasts_at d routes p k) t) (slice_get-end (p.path t) _ l) in
              let in_q : granted_after d routes q (pasts_at d routes q k) t ≡ (state_of (state_at d routes q k) t).granted =
              ap (λ g. granted_with d routes q (pasts_at d routes q k) t (slice_get (q.path t) g)) (granted ∙ full) ∙ at_end (slice_get (q.path t) (length (p.path t))) refl full in
              (in_q ∙ granted ∙ sym in_p, omega arith)

    -- the two runs agree at every tick
    pub agreement : (k : ℕ) (t : TrainNo) → Agree k t
    agreement zero t = at_first fits.meeting t
    agreement (suc k) t = step fits.meeting k (agreement k) (granted_same k (agreement k)) t
