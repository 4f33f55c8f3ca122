-- Two dispatches again: where the horizons reach all that the second run rests on, the first run is like it.
use Rattle.std.proofs.Common.{◌≡◌, ℕ, zero, suc, ◌+◌, ◌≤◌, ◌<◌, ◌⊎◌, inl, inr, Bool, true, false, ◌&&◌, if◌then◌else◌, nat_le, nat_lt, List, length, slice_get, sum_by, Some, sym, ap, ap₂, subst, ◌∙◌, arith}
use Rattle.rail_base.specs.declared.station.Station.{Station}
use Rattle.rail_base.specs.declared.station.SectionNo.{SectionNo}
use Rattle.rail_base.specs.declared.station.TrainNo.{TrainNo}
use Rattle.rail_base.specs.declared.route.Route.{Route}
use Rattle.rail_base.specs.declared.route.RouteNo.{RouteNo}
use Rattle.rail_base.specs.declared.plan.Command.{Command}
use Rattle.rail_base.specs.declared.state.TrainState.{TrainState}
use Rattle.rail_spec.specs.Plans.{route_at, shared, length_mm, release_offset}
use Rattle.rail_base.specs.Stations.{train_length}
use Rattle.rail_spec.specs.Dispatches.{state_of, Dispatch, routes_before, has_released, has_cleared, is_ready, granted_with, granted_after, pasts_at, state_at}
use Rattle.rail_base.proofs.Members.{In, list_all_at, below_or_not, same_bool}
use Rattle.rail_laws.proofs.Running.{granted_at_least, granted_after_more, run_up_to}
use Rattle.cone_spec.proofs.Agreement.{Meeting, Agree, at_place, slice_get-append, slice_get-end, released_same, past_stays_to, ready_in_second, step, at_first}
use Rattle.cone_spec.proofs.Releasing.{out, released_is}
use Rattle.rail_base.proofs.Lists.{list_all_from}

module _ (d : Station) (routes : List Route) (p q : Dispatch) (h : TrainNo → ℕ) where
  pub record Reaches : Type 0 where
    pub meeting : Meeting d routes p q h
    -- only trains of the design are followed
    pub followed : (t : TrainNo) → 1 ≤ h t → (1 ≤ t.0) × (t.0 ≤ length d.trains)
    -- what a command of the prefix waits for is released by its own train's horizon
    pub cleared : (t : TrainNo) (r : RouteNo) (e : Command) → In r (p.path t) → In e (p.before (record { train = t; route = r })) → has_cleared d routes q (pasts_at d routes q (h e.train)) (record { train = t; route = r }) e ≡ true
    -- and no more than the prefix is granted by the horizon
    pub few : (t : TrainNo) → (state_of (state_at d routes q (h t)) t).granted ≤ length (p.path t)

  module _ (reaches : Reaches) where
    module _ (k : ℕ) (agree : (j : ℕ) → j ≤ k → (t : TrainNo) → Agree d routes p q h j t) where
      now : (t : TrainNo) → Agree d routes p q h k t
      now = agree k (omega arith)

      ready_back : (t : TrainNo) (r : RouteNo) → In r (p.path t) → is_ready d routes q (pasts_at d routes q k) (record { train = t; route = r }) ≡ true → is_ready d routes p (pasts_at d routes p k) (record { train = t; route = r }) ≡ true
      ready_back t r m ready =
          list_all_from _ (p.before (record { train = t; route = r })) (λ e i.
          list_all_from _ (shared (route_at routes e.route) (route_at routes r)) (λ z j. go e z i j (below_or_not (h e.train) k)))
        where
          go : (e : Command) (z : SectionNo) → In e (p.before (record { train = t; route = r })) → In z (shared (route_at routes e.route) (route_at routes r)) → (h e.train < k) ⊎ (k ≤ h e.train) → has_released d routes p (pasts_at d routes p k) e z ≡ true
          go e z i j (inr n) =
              sym (released_same d routes p q h reaches.meeting k e z (now e.train) n) ∙
              list_all_at (has_released d routes q (pasts_at d routes q k) e) _ z (list_all_at (has_cleared d routes q (pasts_at d routes q k) (record { train = t; route = r })) (q.before (record { train = t; route = r })) e ready (reaches.meeting.waits_too t r e m i)) j
          go e z i j (inl n) =
              released_is d routes p (pasts_at d routes p k) e z
              ∙ ap (out d routes e z (routes_before d routes p e)) (past_stays_to d routes p q h reaches.meeting (h e.train) k e.train (omega arith) (omega arith))
              ∙ sym (released_is d routes p (pasts_at d routes p (h e.train)) e z)
              ∙ sym (released_same d routes p q h reaches.meeting (h e.train) e z (agree (h e.train) (omega arith) e.train) (omega arith))
              ∙ list_all_at (has_released d routes q (pasts_at d routes q (h e.train)) e) _ z (reaches.cleared t r e m i) j

      grants : (t : TrainNo) → k < h t → (granted_after d routes q (pasts_at d routes q k) t ≡ granted_after d routes p (pasts_at d routes p k) t) × (granted_after d routes p (pasts_at d routes p k) t ≤ length (p.path t))
      grants t near = go (below_or_not (state_of (state_at d routes p k) t).granted (length (p.path t)))
        where
          granted : (state_of (state_at d routes q k) t).granted ≡ (state_of (state_at d routes p k) t).granted
          granted = ap (λ (s : TrainState). s.granted) ((now t).same (omega arith))

          one_more : (b : Bool) (g n : ℕ) → g < n → (if b then g + 1 else g) ≤ n
          one_more true g n l = omega arith
          one_more false g n l = omega arith

          go : ((state_of (state_at d routes p k) t).granted < length (p.path t)) ⊎ (length (p.path t) ≤ (state_of (state_at d routes p k) t).granted)
              → (granted_after d routes q (pasts_at d routes q k) t ≡ granted_after d routes p (pasts_at d routes p k) t) × (granted_after d routes p (pasts_at d routes p k) t ≤ length (p.path t))
          go (inl l) = found (at_place (p.path t) (state_of (state_at d routes p k) t).granted l)
            where
              found : ((r : RouteNo) × (slice_get (p.path t) (state_of (state_at d routes p k) t).granted ≡ Some r) × In r (p.path t)) → (granted_after d routes q (pasts_at d routes q k) t ≡ granted_after d routes p (pasts_at d routes p k) t) × (granted_after d routes p (pasts_at d routes p k) t ≤ length (p.path t))
              found (r, e, m) =
                  let in_p : granted_after d routes p (pasts_at d routes p k) t ≡ granted_with d routes p (pasts_at d routes p k) t (Some r) = ap (granted_with d routes p (pasts_at d routes p k) t) e in
                  let in_q : granted_after d routes q (pasts_at d routes q k) t ≡ granted_with d routes q (pasts_at d routes q k) t (Some r) =
                  ap (granted_with d routes q (pasts_at d routes q k) t) (ap₂ slice_get (reaches.meeting.prefix t) granted ∙ slice_get-append (p.path t) (reaches.meeting.rest t) _ l ∙ e) in
                  let ready : is_ready d routes q (pasts_at d routes q k) (record { train = t; route = r }) ≡ is_ready d routes p (pasts_at d routes p k) (record { train = t; route = r }) =
                  same_bool _ _ (ready_back t r m) (ready_in_second d routes p q h reaches.meeting k now t r m) in (
                    in_q ∙ ap₂ (λ (b : Bool) g. if b then g + 1 else g) ready granted ∙ sym in_p,
                    subst (λ n. n ≤ length (p.path t)) (sym in_p) (one_more (is_ready d routes p (pasts_at d routes p k) (record { train = t; route = r })) _ _ l),
                  )
          go (inr l) =
              let few = (now t).few in
              let in_p : granted_after d routes p (pasts_at d routes p k) t ≡ (state_of (state_at d routes p k) t).granted = ap (granted_with d routes p (pasts_at d routes p k) t) (slice_get-end (p.path t) _ l) in
              let design = reaches.followed t (omega arith) in
              let least = granted_at_least d routes q k t design.0 design.1 (reaches.meeting.always (suc k) t) in
              let up = (run_up_to d routes q (suc k) (h t) t near).granted in
              let end = reaches.few t in
              let more : (state_of (state_at d routes q k) t).granted ≤ granted_after d routes q (pasts_at d routes q k) t = granted_after_more d routes q (pasts_at d routes q k) t in
              let g = granted in
              (omega arith, omega arith)

    all_agree : (k j : ℕ) → j ≤ k → (t : TrainNo) → Agree d routes p q h j t
    all_agree zero zero l t = at_first d routes p q h reaches.meeting t
    all_agree zero (suc j) l t = absurd (omega arith)
    all_agree (suc k) j l t = go (below_or_not k j) (all_agree k)
      where
        go : (k < j) ⊎ (j ≤ k) → ((j : ℕ) → j ≤ k → (t : TrainNo) → Agree d routes p q h j t) → Agree d routes p q h j t
        go (inr m) before = before j m t
        go (inl m) before = let same : suc k ≡ j = omega arith in subst (λ i. Agree d routes p q h i t) same (step d routes p q h reaches.meeting k (before k (omega arith)) (grants k before) t)

    -- the two runs agree at every tick
    pub reaching : (k : ℕ) (t : TrainNo) → Agree d routes p q h k t
    reaching k t = all_agree k k (omega arith) t
