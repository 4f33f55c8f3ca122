-- A slice shows the violation of the plan.
use Rattle.std.proofs.Common.{◌≡◌, ℕ, suc, ◌+◌, ◌-◌, ◌≤◌, ◌<◌, Bool, true, false, ◌&&◌, ◌==◌, nat_le, List, length, drop, Option, None, Some, is_some, is_none, refl, sym, ap, subst, ◌∙◌, arith, leb-true, leb-false, le-leb, eqb-true, eq-eqb, true≢false}
use Rattle.rail_base.specs.declared.station.Station.{Station}
use Rattle.rail_base.specs.declared.station.TrainNo.{TrainNo}
use Rattle.rail_base.specs.declared.route.Route.{Route}
use Rattle.rail_base.specs.declared.plan.Command.{Command}
use Rattle.rail_base.specs.declared.plan.Violation.{Violation}
use Rattle.rail_base.specs.declared.plan.Violation.TheVariants as violation
use Rattle.rail_base.specs.declared.state.TrainState.{TrainState}
use Rattle.cone_spec.specs.declared.ConeTrain.{ConeTrain}
use Rattle.rail_spec.specs.Plans.{path}
use Rattle.rail_base.specs.Stations.{horizon, within_of, order_of}
use Rattle.rail_spec.specs.Dispatches.{state_of, state_at, of_plan}
use Rattle.rail_spec.specs.Visits.{visit_tick}
use Rattle.rail_spec.specs.Requirements.{most_ticks, visited_by, is_certain, is_after}
use Rattle.rail_base.proofs.Members.{and_left, and_right, and_both, is_false}
use Rattle.rail_laws.proofs.Deciding.{visit_stays, visit_at}
use Rattle.cone_spec.specs.Cones.{named, free_path, of_cone}
use Rattle.cone_spec.specs.Validity.{cone_visit, at_its_tick, shows_violation}
use Rattle.rail_base.specs.Admission.{is_from}
use Rattle.cone_spec.specs.Clauses.{is_path_violation}
use Rattle.slice_spec.specs.Holders.{count_at, reaches, is_within}
use Rattle.slice_spec.specs.Slices.{slice_with}
use Rattle.cone_spec.proofs.SameVisits.{visit_alike}
use Rattle.slice_spec.proofs.Slicing.{Failed, within_last, named_slice, horizon_slice, prefix_slice, slice_agrees}

-- the trains that a violation names are of the design
abbrev pub names_trains : Station → Violation → Bool
names_trains d (violation.Path t j) = is_from 1 (length d.trains) t.0
names_trains d (violation.Within w) = is_from 1 (length d.trains) (within_of d w).from_train.0 && is_from 1 (length d.trains) (within_of d w).to_train.0
names_trains d (violation.Order o) = is_from 1 (length d.trains) (order_of d o).first_train.0 && is_from 1 (length d.trains) (order_of d o).then_train.0
names_trains d (violation.Grant t j) = is_from 1 (length d.trains) t.0
names_trains d (violation.Visit t j) = is_from 1 (length d.trains) t.0

module _ (d : Station) (routes : List Route) (n : ℕ) (plan : List (List Command)) (last : ℕ) (v : Violation) (h upto : TrainNo → ℕ) (failed : Failed d routes n plan last v h upto) where
  low : (m i : ℕ) → is_from 1 m i ≡ true → 1 ≤ i
  low m i e = leb-true 1 i (and_left (nat_le 1 i) (nat_le i m) e)

  high : (m i : ℕ) → is_from 1 m i ≡ true → i ≤ m
  high m i e = leb-true i m (and_right (nat_le 1 i) (nat_le i m) e)

  -- up to its horizon a train makes its visits at the same ticks
  pub slice_visits : (tick : ℕ) (t : TrainNo) (j : ℕ) → is_from 1 (length d.trains) t.0 ≡ true → tick ≤ h t → visit_tick d routes (of_plan routes plan) tick t j ≡ cone_visit d routes (slice_with d routes plan last h upto v) tick t j
  slice_visits tick t j i l =
      let e = horizon_slice d routes n plan last v h upto failed t (low (length d.trains) t.0 i) (high (length d.trains) t.0 i) in
      visit_alike d routes (slice_with d routes plan last h upto v) plan tick t (drop (length (free_path (slice_with d routes plan last h upto v) t)) (path plan t)) (prefix_slice d routes n plan last v h upto failed t)
      (λ i m. same i (omega arith))
      (λ i m. let a = slice_agrees d routes n plan last v h upto failed i t in let f = a.few in let s : (state_of (state_at d routes (of_plan routes plan) i) t).granted ≡ (state_of (state_at d routes (of_cone (slice_with d routes plan last h upto v)) i) t).granted = ap (λ (s : TrainState). s.granted) (same i (omega arith)) in omega arith) j
    where
      same : (i : ℕ) → i ≤ (named (slice_with d routes plan last h upto v) t).horizon → state_of (state_at d routes (of_plan routes plan) i) t ≡ state_of (state_at d routes (of_cone (slice_with d routes plan last h upto v)) i) t
      same i m = (slice_agrees d routes n plan last v h upto failed i t).same m

  pub reaches_it : reaches d routes plan last h v ≡ true
  reaches_it = failed.closed.own

  after_gives : (m : ℕ) (o : Option ℕ) (i : ℕ) → is_after m o i ≡ true → (a : ℕ) × (o ≡ Some a) × (a + m ≡ i)
  after_gives m None i e = cc
  after_gives m (Some a) i e = (a, refl, eqb-true (a + m) i e)

  none_of : (o : Option ℕ) → is_some o ≡ false → is_none o ≡ true
  none_of None e = refl
  none_of (Some a) e = absurd (true≢false e)

  -- a visit at a tick that the horizon reaches is made then in the slice's run, too
  made_then : (t : TrainNo) (j a : ℕ) → is_from 1 (length d.trains) t.0 ≡ true → visit_tick d routes (of_plan routes plan) last t j ≡ Some a → a ≤ h t → cone_visit d routes (slice_with d routes plan last h upto v) (named (slice_with d routes plan last h upto v) t).horizon t j ≡ Some a
  made_then t j a i made l =
      let e = horizon_slice d routes n plan last v h upto failed t (low (length d.trains) t.0 i) (high (length d.trains) t.0 i) in
      let s : a + (h t - a) ≡ h t = omega arith in
      ap (λ k. cone_visit d routes (slice_with d routes plan last h upto v) k t j) e ∙ sym (slice_visits (h t) t j i (omega arith))
      ∙ subst (λ k. visit_tick d routes (of_plan routes plan) k t j ≡ Some a) s (visit_stays d routes plan a (h t - a) t j a (visit_at d routes plan last t j a made))

  not_made : (t : TrainNo) (j k : ℕ) → is_from 1 (length d.trains) t.0 ≡ true → k ≤ h t → visited_by d routes plan k t j ≡ false → is_none (cone_visit d routes (slice_with d routes plan last h upto v) k t j) ≡ true
  not_made t j k i l e = none_of (cone_visit d routes (slice_with d routes plan last h upto v) k t j) (ap is_some (sym (slice_visits k t j i l)) ∙ e)

  pub reach_horizon : (t : TrainNo) → is_from 1 (length d.trains) t.0 ≡ true → nat_le (horizon d) (h t) ≡ true → h t ≡ horizon d
  reach_horizon t i e = let a = within_last d routes n plan last v h upto failed t (low (length d.trains) t.0 i) (high (length d.trains) t.0 i) in let b = leb-true _ _ e in let c = failed.in_time in omega arith

  shown_of : (w : Violation) → v ≡ w → is_path_violation d routes (slice_with d routes plan last h upto v) w ≡ false → names_trains d w ≡ true → reaches d routes plan last h w ≡ true → is_certain d routes plan last w ≡ true → shows_violation d routes (slice_with d routes plan last h upto v) w ≡ true
  shown_of (violation.Path t j) e no_path i r c = absurd (true≢false no_path)
  shown_of (violation.Within w) e no_path i r c = go (after_gives (most_ticks d (within_of d w)) _ last (and_right (nat_le last (horizon d)) _ (and_left (nat_le last (horizon d) && is_after (most_ticks d (within_of d w)) (visit_tick d routes (of_plan routes plan) last (within_of d w).from_train (within_of d w).from_visit) last) _ c)))
    where
      from_in : is_from 1 (length d.trains) (within_of d w).from_train.0 ≡ true
      from_in = and_left (is_from 1 (length d.trains) (within_of d w).from_train.0) _ i

      to_in : is_from 1 (length d.trains) (within_of d w).to_train.0 ≡ true
      to_in = and_right (is_from 1 (length d.trains) (within_of d w).from_train.0) _ i

      missed : visited_by d routes plan last (within_of d w).to_train (within_of d w).to_visit ≡ false
      missed = is_false _ (and_right (nat_le last (horizon d) && is_after (most_ticks d (within_of d w)) (visit_tick d routes (of_plan routes plan) last (within_of d w).from_train (within_of d w).from_visit) last) _ c)

      go : (a : ℕ) × (visit_tick d routes (of_plan routes plan) last (within_of d w).from_train (within_of d w).from_visit ≡ Some a) × (a + most_ticks d (within_of d w) ≡ last) → shows_violation d routes (slice_with d routes plan last h upto v) (violation.Within w) ≡ true
      go (a, made, at) =
          let M = most_ticks d (within_of d w) in
          let r2 : (nat_le a (h (within_of d w).from_train) && nat_le (a + M) (h (within_of d w).to_train)) ≡ true =
          subst (λ o. is_within o (λ a. nat_le a (h (within_of d w).from_train) && nat_le (a + M) (h (within_of d w).to_train)) ≡ true) made r in
          let l = leb-true a (h (within_of d w).from_train) (and_left (nat_le a (h (within_of d w).from_train)) _ r2) in
          let m = leb-true (a + M) (h (within_of d w).to_train) (and_right (nat_le a (h (within_of d w).from_train)) _ r2) in
          let same = horizon_slice d routes n plan last v h upto failed (within_of d w).to_train (low (length d.trains) (within_of d w).to_train.0 to_in) (high (length d.trains) (within_of d w).to_train.0 to_in) in
          let missed_then : visited_by d routes plan (a + M) (within_of d w).to_train (within_of d w).to_visit ≡ false = subst (λ k. visited_by d routes plan k (within_of d w).to_train (within_of d w).to_visit ≡ false) (sym at) missed in
          ap (λ o. at_its_tick d routes (slice_with d routes plan last h upto v) o (λ a. nat_le (a + M) (named (slice_with d routes plan last h upto v) (within_of d w).to_train).horizon && is_none (cone_visit d routes (slice_with d routes plan last h upto v) (a + M) (within_of d w).to_train (within_of d w).to_visit))) (made_then (within_of d w).from_train (within_of d w).from_visit a from_in made l)
          ∙ and_both _ _ (le-leb (a + M) (named (slice_with d routes plan last h upto v) (within_of d w).to_train).horizon (omega arith)) (not_made (within_of d w).to_train (within_of d w).to_visit (a + M) to_in m missed_then)
  shown_of (violation.Order o) e no_path i r c = go (after_gives 0 _ last (and_left (is_after 0 (visit_tick d routes (of_plan routes plan) last (order_of d o).then_train (order_of d o).then_visit) last) _ c))
    where
      first_in : is_from 1 (length d.trains) (order_of d o).first_train.0 ≡ true
      first_in = and_left (is_from 1 (length d.trains) (order_of d o).first_train.0) _ i

      then_in : is_from 1 (length d.trains) (order_of d o).then_train.0 ≡ true
      then_in = and_right (is_from 1 (length d.trains) (order_of d o).first_train.0) _ i

      missed : visited_by d routes plan (last - 1) (order_of d o).first_train (order_of d o).first_visit ≡ false
      missed = is_false _ (and_right (is_after 0 (visit_tick d routes (of_plan routes plan) last (order_of d o).then_train (order_of d o).then_visit) last) _ c)

      go : (a : ℕ) × (visit_tick d routes (of_plan routes plan) last (order_of d o).then_train (order_of d o).then_visit ≡ Some a) × (a + 0 ≡ last) → shows_violation d routes (slice_with d routes plan last h upto v) (violation.Order o) ≡ true
      go (a, made, at) =
          let r2 : (nat_le a (h (order_of d o).then_train) && nat_le a (h (order_of d o).first_train + 1)) ≡ true =
          subst (λ x. is_within x (λ a. nat_le a (h (order_of d o).then_train) && nat_le a (h (order_of d o).first_train + 1)) ≡ true) made r in
          let l = leb-true a (h (order_of d o).then_train) (and_left (nat_le a (h (order_of d o).then_train)) _ r2) in
          let m = leb-true a (h (order_of d o).first_train + 1) (and_right (nat_le a (h (order_of d o).then_train)) _ r2) in
          let same = horizon_slice d routes n plan last v h upto failed (order_of d o).first_train (low (length d.trains) (order_of d o).first_train.0 first_in) (high (length d.trains) (order_of d o).first_train.0 first_in) in
          let is_last : last ≡ a = omega arith in
          let missed_then : visited_by d routes plan (a - 1) (order_of d o).first_train (order_of d o).first_visit ≡ false = subst (λ k. visited_by d routes plan (k - 1) (order_of d o).first_train (order_of d o).first_visit ≡ false) is_last missed in
          ap (λ x. at_its_tick d routes (slice_with d routes plan last h upto v) x (λ a. nat_le a ((named (slice_with d routes plan last h upto v) (order_of d o).first_train).horizon + 1) && is_none (cone_visit d routes (slice_with d routes plan last h upto v) (a - 1) (order_of d o).first_train (order_of d o).first_visit))) (made_then (order_of d o).then_train (order_of d o).then_visit a then_in made l)
          ∙ and_both _ _ (le-leb a ((named (slice_with d routes plan last h upto v) (order_of d o).first_train).horizon + 1) (omega arith)) (not_made (order_of d o).first_train (order_of d o).first_visit (a - 1) first_in (omega arith) missed_then)
  shown_of (violation.Grant t j) e no_path i r c =
      let at_end : last ≡ horizon d = eqb-true _ _ (and_left (last == horizon d) _ c) in
      let full = reach_horizon t i r in
      let same = horizon_slice d routes n plan last v h upto failed t (low (length d.trains) t.0 i) (high (length d.trains) t.0 i) in
      let free : (named (slice_with d routes plan last h upto v) t).free ≡ count_at d routes plan (h t) t = ap (λ (c : ConeTrain). c.free) (named_slice d routes n plan last v h upto failed t (low (length d.trains) t.0 i) (high (length d.trains) t.0 i)) in
      let granted : count_at d routes plan (h t) t ≡ (state_of (state_at d routes (of_plan routes plan) last) t).granted = ap (λ k. count_at d routes plan k t) (full ∙ sym at_end) in
      let waits : (state_of (state_at d routes (of_plan routes plan) last) t).granted < j = leb-false j (state_of (state_at d routes (of_plan routes plan) last) t).granted (is_false _ (and_right (last == horizon d) _ c)) in
      and_both _ _ (eq-eqb (named (slice_with d routes plan last h upto v) t).horizon (horizon d) (same ∙ full)) (le-leb (suc (named (slice_with d routes plan last h upto v) t).free) j (omega arith))
  shown_of (violation.Visit t j) e no_path i r c =
      let at_end : last ≡ horizon d = eqb-true _ _ (and_left (last == horizon d) _ c) in
      let full = reach_horizon t i r in
      let same = horizon_slice d routes n plan last v h upto failed t (low (length d.trains) t.0 i) (high (length d.trains) t.0 i) in
      let missed : visited_by d routes plan (horizon d) t j ≡ false = subst (λ k. visited_by d routes plan k t j ≡ false) at_end (is_false _ (and_right (last == horizon d) _ c)) in
      and_both _ _ (eq-eqb (named (slice_with d routes plan last h upto v) t).horizon (horizon d) (same ∙ full)) (not_made t j (horizon d) i (omega arith) missed)

  -- the slice shows what is certain of the plan at the last tick
  pub slice_shown : is_path_violation d routes (slice_with d routes plan last h upto v) v ≡ false → names_trains d v ≡ true → is_certain d routes plan last v ≡ true → shows_violation d routes (slice_with d routes plan last h upto v) v ≡ true
  slice_shown no_path i c = shown_of v refl no_path i reaches_it c
