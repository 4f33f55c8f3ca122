-- What is said of orders and withins by tick k is so from then on.
use Rattle.std.proofs.Common.{◌≡◌, ℕ, ◌+◌, ◌-◌, ◌*◌, ◌/◌, ◌≤◌, ◌<◌, Bool, true, false, cond, nat_le, nat_lt, List, Option, None, Some, refl, sym, ap₂, subst, ◌∙◌, arith, leb-true, leb-false, le-leb, mul-le-mul, le_refl, div-mul-le_self}
use Rattle.std.proofs.Math.Nat.{lt-div-mul-add}
use Rattle.rail_base.specs.declared.station.Station.{Station}
use Rattle.rail_base.specs.declared.station.Order.{Order}
use Rattle.rail_base.specs.declared.station.TrainNo.{TrainNo}
use Rattle.rail_base.specs.declared.station.Within.{Within}
use Rattle.rail_base.specs.declared.route.Route.{Route}
use Rattle.rail_base.specs.declared.plan.Command.{Command}
use Rattle.rail_base.proofs.Members.{false_unless, not_less}
use Rattle.rail_spec.specs.Dispatches.{of_plan}
use Rattle.rail_spec.specs.Visits.{visit_tick}
use Rattle.rail_spec.specs.Histories.{history_at}
use Rattle.rail_spec.specs.Requirements.{both, most_ticks, keeps_order, keeps_within}
use Rattle.rail_laws.proofs.Deciding.{visit_stays, visit_within, visit_at}
use Rattle.rail_require.proofs.Telling.{visit_told}
use Rattle.run_drawing.specs.declared.ending.Ending.TheVariants.{Met, Broken, Open}
use Rattle.run_drawing.specs.Laws.{EndingsAreSo}
use Rattle.run_drawing.specs.Requirements.{order_ending, within_ending, ending_of_order, ending_of_within}

-- ---- numbers

-- at most so many ticks are at most so many ms, and more are more
in_ms : (ms most a b : ℕ) → 1 ≤ ms → b ≤ a + most / ms → b * ms ≤ a * ms + most
in_ms ms most a b some h =
    let k : b * ms ≤ (a + most / ms) * ms = mul-le-mul h (le_refl ms) in
    let q : most / ms * ms ≤ most = div-mul-le_self most ms in
    omega (arith, k, q)

past : (ms most a b : ℕ) → 1 ≤ ms → a + most / ms < b → a * ms + most < b * ms
past ms most a b some h =
    let l : a + most / ms + 1 ≤ b = omega arith in
    let k : (a + most / ms + 1) * ms ≤ b * ms = mul-le-mul l (le_refl ms) in
    let q : most < most / ms * ms + ms = lt-div-mul-add some in
    omega (arith, k, q)

not_most : (a b : ℕ) → b < a → nat_le a b ≡ false
not_most a b h = false_unless (nat_le a b) (λ t. let l = leb-true a b t in omega arith)

-- what was chosen between two
met_if : (b : Bool) → cond b Met Broken ≡ Met → b ≡ true
met_if true h = refl
met_if false h = absurd (cc)

broken_if : (b : Bool) → cond b Met Broken ≡ Broken → b ≡ false
broken_if true h = absurd (cc)
broken_if false h = refl

passed_if : (b : Bool) → cond b Broken Open ≡ Broken → b ≡ true
passed_if true h = refl
passed_if false h = absurd (cc)

never_met : (b : Bool) → cond b Broken Open ≡ Met → ⊥
never_met true h = absurd (cc)
never_met false h = absurd (cc)

module _ (d : Station) (routes : List Route) (plan : List (List Command)) (k m : ℕ) where
  abbrev tick : ℕ → TrainNo → ℕ → Option ℕ
  tick n t j = visit_tick d routes (of_plan routes plan) n t j

  -- a visit that is not made by k is made later, if it is
  comes_late : (t : TrainNo) (j c : ℕ) → tick k t j ≡ None → tick (k + m) t j ≡ Some c → k < c
  comes_late t j c none made = go (nat_le c k) refl
    where
      go : (b : Bool) → nat_le c k ≡ b → k < c
      go false e = let l = leb-false c k e in omega arith
      go true e =
          let l = leb-true c k e in
          let same : c + (k - c) ≡ k = omega arith in
          let then : tick k t j ≡ Some c = subst (λ n. tick n t j ≡ Some c) same (visit_stays d routes plan c (k - c) t j c (visit_at d routes plan (k + m) t j c made)) in
          let clash : None ≡ Some c = sym none ∙ then in
          absurd (cc)

  -- ---- orders

  module _ (o : Order) where
    order_met : (f s : Option ℕ) → tick k o.first_train o.first_visit ≡ f → tick k o.then_train o.then_visit ≡ s → order_ending f s ≡ Met → keeps_order d routes plan (k + m) o ≡ true
    order_met f None e g h = absurd (cc)
    order_met None (Some b) e g h = absurd (cc)
    order_met (Some a) (Some b) e g h =
        ap₂ (both nat_lt) (visit_stays d routes plan k m o.first_train o.first_visit a e) (visit_stays d routes plan k m o.then_train o.then_visit b g) ∙ met_if (nat_lt a b) h

    order_broken : (f s : Option ℕ) → tick k o.first_train o.first_visit ≡ f → tick k o.then_train o.then_visit ≡ s → order_ending f s ≡ Broken → keeps_order d routes plan (k + m) o ≡ false
    order_broken f None e g h = absurd (cc)
    order_broken None (Some b) e g h = go (tick (k + m) o.first_train o.first_visit) refl
      where
        go : (p : Option ℕ) → tick (k + m) o.first_train o.first_visit ≡ p → keeps_order d routes plan (k + m) o ≡ false
        go None q = ap₂ (both nat_lt) q (visit_stays d routes plan k m o.then_train o.then_visit b g)
        go (Some c) q =
            let late = comes_late o.first_train o.first_visit c e q in
            let soon = (visit_within d routes plan k o.then_train o.then_visit b g).1 in
            ap₂ (both nat_lt) q (visit_stays d routes plan k m o.then_train o.then_visit b g) ∙ not_less c b (omega arith)
    order_broken (Some a) (Some b) e g h =
        ap₂ (both nat_lt) (visit_stays d routes plan k m o.first_train o.first_visit a e) (visit_stays d routes plan k m o.then_train o.then_visit b g) ∙ broken_if (nat_lt a b) h

  -- ---- withins

  module _ (some : 1 ≤ d.tick_ms) (w : Within) where
    -- the time from the one tick to the other
    abbrev soon : ℕ → ℕ → Bool
    soon from to = nat_le (to * d.tick_ms) (from * d.tick_ms + w.max_ms)

    within_met : (f s : Option ℕ) → tick k w.from_train w.from_visit ≡ f → tick k w.to_train w.to_visit ≡ s → within_ending (most_ticks d w) k f s ≡ Met → keeps_within d routes plan (k + m) w ≡ true
    within_met None s e g h = absurd (cc)
    within_met (Some a) None e g h = absurd (never_met (nat_le (a + most_ticks d w) k) h)
    within_met (Some a) (Some b) e g h =
        ap₂ (both soon) (visit_stays d routes plan k m w.from_train w.from_visit a e) (visit_stays d routes plan k m w.to_train w.to_visit b g)
        ∙ le-leb _ _ (in_ms d.tick_ms w.max_ms a b some (leb-true b (a + most_ticks d w) (met_if (nat_le b (a + most_ticks d w)) h)))

    late : (a b : ℕ) → a + most_ticks d w < b → soon a b ≡ false
    late a b h = not_most (b * d.tick_ms) (a * d.tick_ms + w.max_ms) (past d.tick_ms w.max_ms a b some h)

    within_broken : (f s : Option ℕ) → tick k w.from_train w.from_visit ≡ f → tick k w.to_train w.to_visit ≡ s → within_ending (most_ticks d w) k f s ≡ Broken → keeps_within d routes plan (k + m) w ≡ false
    within_broken None s e g h = absurd (cc)
    within_broken (Some a) None e g h = go (tick (k + m) w.to_train w.to_visit) refl
      where
        go : (p : Option ℕ) → tick (k + m) w.to_train w.to_visit ≡ p → keeps_within d routes plan (k + m) w ≡ false
        go None q = ap₂ (both soon) (visit_stays d routes plan k m w.from_train w.from_visit a e) q
        go (Some c) q =
            let after = comes_late w.to_train w.to_visit c g q in
            let over = leb-true (a + most_ticks d w) k (passed_if (nat_le (a + most_ticks d w) k) h) in
            ap₂ (both soon) (visit_stays d routes plan k m w.from_train w.from_visit a e) q ∙ late a c (omega arith)
    within_broken (Some a) (Some b) e g h =
        let over = leb-false b (a + most_ticks d w) (broken_if (nat_le b (a + most_ticks d w)) h) in
        ap₂ (both soon) (visit_stays d routes plan k m w.from_train w.from_visit a e) (visit_stays d routes plan k m w.to_train w.to_visit b g) ∙ late a b (omega arith)

-- by the ticks in the history
pub endings_so : EndingsAreSo
endings_so = record {
  order = λ d routes plan k good o is.
      let n = good.order o is in
      let same : ending_of_order (history_at d routes plan k) o ≡ order_ending (tick d routes plan k 0 k o.first_train o.first_visit) (tick d routes plan k 0 k o.then_train o.then_visit) =
      ap₂ order_ending (visit_told d routes plan k o.first_train n.first_names.0 o.first_visit) (visit_told d routes plan k o.then_train n.after.0 o.then_visit) in
      record {
        met = λ h m. order_met d routes plan k m o _ _ refl refl (sym same ∙ h);
        broken = λ h m. order_broken d routes plan k m o _ _ refl refl (sym same ∙ h);
      };
  within = λ d routes plan k good w is.
      let n = good.within w is in
      let some : 1 ≤ d.tick_ms = let r = good.tick.0 in omega arith in
      let same : ending_of_within d (history_at d routes plan k) k w ≡ within_ending (most_ticks d w) k (tick d routes plan k 0 k w.from_train w.from_visit) (tick d routes plan k 0 k w.to_train w.to_visit) =
      ap₂ (within_ending (most_ticks d w) k) (visit_told d routes plan k w.from_train n.from.0 w.from_visit) (visit_told d routes plan k w.to_train n.to.0 w.to_visit) in
      record {
        met = λ h m. within_met d routes plan k m some w _ _ refl refl (sym same ∙ h);
        broken = λ h m. within_broken d routes plan k m some w _ _ refl refl (sym same ∙ h);
      };
}
