-- Hops by free moves take at least their ticks, and so do chains.
use Rattle.std.proofs.Common.{◌≡◌, ℕ, zero, suc, ◌+◌, ◌-◌, ◌≤◌, ◌<◌, ◌⊎◌, inl, inr, max, Bool, true, false, ◌&&◌, nat_le, List, take, length, sum_by, refl, sym, ap, subst, ◌∙◌, arith, leb-true, leb-false, le-leb, true≢false}
use Rattle.rail_base.specs.declared.station.Station.{Station}
use Rattle.rail_base.specs.declared.station.TrainNo.{TrainNo}
use Rattle.rail_base.specs.declared.route.Route.{Route}
use Rattle.rail_base.specs.declared.plan.Command.{Command}
use Rattle.rail_base.specs.declared.state.TrainState.{TrainState}
use Rattle.rail_base.specs.Admitted.{IsAdmitted}
use Rattle.rail_base.specs.Stations.{IsTrain}
use Rattle.rail_spec.specs.Track.{routes_of}
use Rattle.rail_spec.specs.Plans.{route_at, length_mm, path, path_routes, is_well_formed}
use Rattle.rail_spec.specs.Dispatches.{state_of, of_plan, state_at}
use Rattle.rail_base.proofs.Members.{and_left, and_right, and_both}
use Rattle.rail_base.proofs.Lists.{length-map}
use Rattle.rail_base.specs.declared.state.TrainEvent.{TrainEvent}
use Rattle.rail_laws.proofs.Running.{idle_at_first}
use Rattle.bound_spec.specs.Events.{Takes, has_come_by}
use Rattle.bound_spec.proofs.Coming.{come_now}
use Rattle.free_spec.proofs.Heads.{not_past}
use Rattle.free_spec.specs.Legs.{Leg, HasLeg, least_ticks, least_ticks_waited}
use Rattle.free_spec.proofs.Moves.{takes}
use Rattle.free_spec.proofs.Waiting.{waited}

module _ (d : Station) (adm : IsAdmitted d) (n : ℕ) (plan : List (List Command)) (formed : is_well_formed d (routes_of d) n plan ≡ true) where
  abbrev at : ℕ → TrainNo → TrainState
  at k t = state_of (state_at d (routes_of d) (of_plan (routes_of d) plan) k) t

  -- the end of the routes before the command of this number
  abbrev pub end_of : TrainNo → ℕ → ℕ
  end_of t j = sum_by length_mm (take (j - 1) (path_routes (routes_of d) plan t))

  pub at_start : (t : TrainNo) → ((at 0 t).granted ≡ 0) × ((at 0 t).x ≡ 0)
  at_start t = let i = idle_at_first d (routes_of d) (of_plan (routes_of d) plan) t in (ap (λ (s : TrainState). s.granted) i, ap (λ (s : TrainState). s.x) i)

  -- a grant that has not happened
  pub not_granted : (e : TrainEvent) (k : ℕ) → e.ticks ≡ 0 → e.event.place ≡ 0 → has_come_by d (routes_of d) plan e k ≡ false → (at k e.train).granted < e.event.granted
  not_granted e k once none h = go (nat_le e.event.granted (at k e.train).granted) refl (nat_le e.event.place (at k e.train).x) refl (sym (come_now d (routes_of d) plan e k once) ∙ h)
    where
      go : (x : Bool) → nat_le e.event.granted (at k e.train).granted ≡ x → (y : Bool) → nat_le e.event.place (at k e.train).x ≡ y → (x && y) ≡ false → (at k e.train).granted < e.event.granted
      go true ex true ey h = absurd (true≢false h)
      go true ex false ey h = let l = leb-false _ _ ey in absurd (omega arith)
      go false ex y ey h = leb-false _ _ ex

  -- an event that has not happened has the head no farther than before it
  pub not_yet : (e : TrainEvent) (k : ℕ) → e.ticks ≡ 0 → (1 ≤ e.event.granted → IsTrain d e.train) → e.event.granted ≤ length (path plan e.train) → has_come_by d (routes_of d) plan e k ≡ false → (at k e.train).x ≤ max (end_of e.train e.event.granted) (e.event.place - 1)
  not_yet e k once named high h = go (nat_le e.event.granted (at k e.train).granted) refl (nat_le e.event.place (at k e.train).x) refl (sym (come_now d (routes_of d) plan e k once) ∙ h)
    where
      go : (x : Bool) → nat_le e.event.granted (at k e.train).granted ≡ x → (y : Bool) → nat_le e.event.place (at k e.train).x ≡ y → (x && y) ≡ false → (at k e.train).x ≤ max (end_of e.train e.event.granted) (e.event.place - 1)
      go true ex true ey h = absurd (true≢false h)
      go true ex false ey h = let l = leb-false _ _ ey in omega arith
      go false ex y ey h =
          let short = leb-false _ _ ex in
          let long : length (path_routes (routes_of d) plan e.train) ≡ length (path plan e.train) = length-map (route_at (routes_of d)) (path plan e.train) in
          let far = not_past d adm n plan formed e.train e.event.granted k (named (omega arith)) (omega arith) short in
          omega arith

  -- from an event to a later one of the same train, where the walk to there takes so many ticks from any tick at which the first has not happened
  pub hop_by : (e f : TrainEvent) → e.ticks ≡ 0 → f.ticks ≡ 0 → e.train ≡ f.train → e.event.granted ≤ f.event.granted → e.event.place ≤ f.event.place → (P : ℕ → Type 0) → P 0 → ((i : ℕ) → has_come_by d (routes_of d) plan e i ≡ false → P i) → (m : ℕ) → ((i j : ℕ) → P i → f.event.place ≤ (at (i + j) e.train).x → m ≤ j)
      → (k : ℕ) → has_come_by d (routes_of d) plan f k ≡ true → Takes d (routes_of d) plan e f (m - 1) k
  hop_by e f ends begins one number walk P start waits m law k so = go (nat_le c k) refl
    where
      c : ℕ
      c = m - 1

      by_then : (f.event.granted ≤ (at k e.train).granted) × (f.event.place ≤ (at k e.train).x)
      by_then =
          let so' = sym (come_now d (routes_of d) plan f k begins) ∙ so in
          subst (λ t. (f.event.granted ≤ (at k t).granted) × (f.event.place ≤ (at k t).x)) (sym one) (leb-true _ _ (and_left (nat_le f.event.granted (at k f.train).granted) (nat_le f.event.place (at k f.train).x) so'), leb-true _ _ (and_right (nat_le f.event.granted (at k f.train).granted) (nat_le f.event.place (at k f.train).x) so'))

      from_tick : (i j : ℕ) → i + j ≡ k → P i → m ≤ j
      from_tick i j sum hx = let s = ap (λ m. (at m e.train).x) sum in let b = by_then.1 in law i j hx (omega arith)

      zero_or : (m : ℕ) → (m ≡ 0) ⊎ (1 ≤ m)
      zero_or zero = inl refl
      zero_or (suc m) = inr (omega arith)

      go : (z : Bool) → nat_le c k ≡ z → Takes d (routes_of d) plan e f c k
      go false ez =
          let i = leb-false c k ez in
          let q = from_tick 0 k (omega arith) start in
          absurd (omega (arith, i, q))
      go true ez = record { not_before = leb-true c k ez; happened = yes (has_come_by d (routes_of d) plan e (k - c)) refl (zero_or c) }
        where
          yes : (z : Bool) → has_come_by d (routes_of d) plan e (k - c) ≡ z → (c ≡ 0) ⊎ (1 ≤ c) → has_come_by d (routes_of d) plan e (k - c) ≡ true
          yes true h z = h
          yes false h (inl none) =
              let same : k ≡ k - c = omega arith in
              let b = by_then.0 in
              let w = by_then.1 in
              let now : has_come_by d (routes_of d) plan e k ≡ true = come_now d (routes_of d) plan e k ends ∙ and_both _ _ (le-leb e.event.granted (at k e.train).granted (omega arith)) (le-leb e.event.place (at k e.train).x (omega arith)) in
              subst (λ i. has_come_by d (routes_of d) plan e i ≡ true) same now
          yes false h (inr some) =
              let i = leb-true c k ez in
              let q = from_tick (k - c) c (omega arith) (waits (k - c) h) in
              absurd (omega (arith, some, q))

  -- along a leg
  pub leg_hop : (e f : TrainEvent) → e.ticks ≡ 0 → f.ticks ≡ 0 → e.train ≡ f.train → (1 ≤ e.event.granted → IsTrain d e.train) → e.event.granted ≤ length (path plan e.train) → e.event.granted ≤ f.event.granted → e.event.place ≤ f.event.place → (before : List Route) (l : Leg) → HasLeg (routes_of d) plan e.train before l
      → (h x y k : ℕ) → max (end_of e.train e.event.granted) (e.event.place - 1) ≤ sum_by length_mm before + x → sum_by length_mm before + y ≤ f.event.place → has_come_by d (routes_of d) plan f k ≡ true → Takes d (routes_of d) plan e f (least_ticks d e.train l h x y - 1) k
  leg_hop e f ends begins one named high number walk before l has h x y k near far =
      hop_by e f ends begins one number walk (λ i. (at i e.train).x ≤ sum_by length_mm before + x) (let s = at_start e.train in let s0 = s.1 in omega arith) (λ i no. let w = not_yet e i ends named high no in omega arith) (least_ticks d e.train l h x y)
      (λ i j at_i there. takes d adm n plan formed e.train before l has h i j x y at_i (omega arith)) k

  -- from a grant, for which the train has waited
  pub wait_hop : (e f : TrainEvent) → e.ticks ≡ 0 → f.ticks ≡ 0 → e.train ≡ f.train → IsTrain d e.train → 1 ≤ e.event.granted → e.event.granted ≤ length (path plan e.train) → e.event.place ≡ 0 → e.event.granted ≤ f.event.granted → e.event.place ≤ f.event.place → (before : List Route) (l : Leg) → HasLeg (routes_of d) plan e.train before l
      → (h x y k : ℕ) → end_of e.train e.event.granted ≤ sum_by length_mm before + x → sum_by length_mm before + y ≤ f.event.place → has_come_by d (routes_of d) plan f k ≡ true → Takes d (routes_of d) plan e f (least_ticks_waited d e.train l h x y - 1) k
  wait_hop e f ends begins one named some high none number walk before l has h x y k near far =
      hop_by e f ends begins one number walk (λ i. (at i e.train).granted < e.event.granted) (let s = at_start e.train in let s0 = s.0 in omega arith) (λ i no. not_granted e i ends none no) (least_ticks_waited d e.train l h x y)
      (λ i j short there. waited d adm n plan formed e.train before l has e.event.granted i x y named high short near h j (omega arith)) k
