-- A plan that is done with no violation before meets the design.
use Rattle.std.proofs.Common.{◌≡◌, ℕ, zero, suc, ◌+◌, ◌-◌, ◌*◌, ◌/◌, ◌≤◌, ◌<◌, Bool, true, false, not, nat_le, nat_lt, List, Option, None, Some, is_some, option_and_then, refl, sym, ap, subst, ◌∙◌, arith, leb-true, leb-false, le-leb, true≢false, ap₂, eq-eqb, mul-le-mul, le_refl, div-mul-le_self}
use Rattle.rail_base.specs.declared.station.Station.{Station}
use Rattle.rail_base.specs.declared.station.TrainNo.{TrainNo}
use Rattle.rail_base.specs.declared.route.Route.{Route}
use Rattle.rail_base.specs.declared.plan.Command.{Command}
use Rattle.rail_base.specs.Numbering.{entry, least, or_this}
use Rattle.rail_base.specs.declared.state.PathNode.{PathNode}
use Rattle.rail_spec.specs.Dispatches.{of_plan}
use Rattle.rail_spec.specs.Visits.{pass_tick, visits_of_train, visit_tick, happened_by}
use Rattle.rail_base.specs.declared.plan.Violation.TheVariants as violation
use Rattle.rail_spec.specs.Requirements.{both, most_ticks, visited_by, keeps_order, keeps_within, is_certain, is_after}
use Rattle.rail_base.specs.Stations.{horizon, within_of, order_of}
use Rattle.rail_base.proofs.Members.{and_both}

-- ---- the least number that passes

pub record IsLeast (test : ℕ → Bool) (n a : ℕ) : Type 0 where
  pub first : 1 ≤ a
  pub last : a ≤ n
  pub passes : test a ≡ true

pub least_gives : (test : ℕ → Bool) (n a : ℕ) → least test n ≡ Some a → IsLeast test n a
least_gives test zero a e = cc
least_gives test (suc n) a e = go (least test n) refl (test (suc n)) refl e (least_gives test n a)
  where
    go : (o : Option ℕ) → least test n ≡ o → (b : Bool) → test (suc n) ≡ b → or_this o b (suc n) ≡ Some a → (least test n ≡ Some a → IsLeast test n a) → IsLeast test (suc n) a
    go (Some k) eo b eb h before = let old = before (eo ∙ h) in record { first = old.first; last = let l = old.last in omega arith; passes = old.passes }
    go None eo true eb h before = let same : suc n ≡ a = cc in subst (λ m. IsLeast test (suc n) m) same (record { first = omega arith; last = omega arith; passes = eb })
    go None eo false eb h before = cc

-- once found it stays
pub least_stays : (test : ℕ → Bool) (n m a : ℕ) → least test n ≡ Some a → least test (n + m) ≡ Some a
least_stays test n zero a e = let z : n + 0 ≡ n = omega arith in rw z e
least_stays test n (suc m) a e =
    let s : n + suc m ≡ suc (n + m) = omega arith in
    rw s (ap (λ o. or_this o (test (suc (n + m))) (suc (n + m))) (least_stays test n m a e))

-- it is there from itself on
pub least_at : (test : ℕ → Bool) (n a : ℕ) → least test n ≡ Some a → least test a ≡ Some a
least_at test zero a e = cc
least_at test (suc n) a e = go (least test n) refl (test (suc n)) refl e (least_at test n a)
  where
    go : (o : Option ℕ) → least test n ≡ o → (b : Bool) → test (suc n) ≡ b → or_this o b (suc n) ≡ Some a → (least test n ≡ Some a → least test a ≡ Some a) → least test a ≡ Some a
    go (Some k) eo b eb h before = before (eo ∙ h)
    go None eo true eb h before =
        let same : suc n ≡ a = cc in
        subst (λ m. least test m ≡ Some m) same (ap (λ o. or_this o (test (suc n)) (suc n)) eo ∙ ap (λ c. or_this None c (suc n)) eb)
    go None eo false eb h before = cc

-- at most so many ticks are at most so many ms
in_ms : (ms most a b : ℕ) → 1 ≤ ms → b ≤ a + most / ms → b * ms ≤ a * ms + most
in_ms ms most a b pos h =
    let k : b * ms ≤ (a + most / ms) * ms = mul-le-mul h (le_refl ms) in
    let q : most / ms * ms ≤ most = div-mul-le_self most ms in
    omega (arith, k, q)

module _ (d : Station) (routes : List Route) (plan : List (List Command)) where
  -- ---- visits

  pub visit_stays : (k m : ℕ) (t : TrainNo) (j a : ℕ) → visit_tick d routes (of_plan routes plan) k t j ≡ Some a → visit_tick d routes (of_plan routes plan) (k + m) t j ≡ Some a
  visit_stays k m t j a e = go (entry None (visits_of_train d routes (of_plan routes plan) t) j) e
    where
      go : (p : Option PathNode) → option_and_then (pass_tick d routes (of_plan routes plan) k t) p ≡ Some a → option_and_then (pass_tick d routes (of_plan routes plan) (k + m) t) p ≡ Some a
      go None h = cc
      go (Some p) h = least_stays (happened_by d routes (of_plan routes plan) t p.event) k m a h

  pub visit_within : (k : ℕ) (t : TrainNo) (j a : ℕ) → visit_tick d routes (of_plan routes plan) k t j ≡ Some a → (1 ≤ a) × (a ≤ k)
  visit_within k t j a e = go (entry None (visits_of_train d routes (of_plan routes plan) t) j) e
    where
      go : (p : Option PathNode) → option_and_then (pass_tick d routes (of_plan routes plan) k t) p ≡ Some a → (1 ≤ a) × (a ≤ k)
      go None h = cc
      go (Some p) h = let l = least_gives (happened_by d routes (of_plan routes plan) t p.event) k a h in (l.first, l.last)

  pub visit_at : (k : ℕ) (t : TrainNo) (j a : ℕ) → visit_tick d routes (of_plan routes plan) k t j ≡ Some a → visit_tick d routes (of_plan routes plan) a t j ≡ Some a
  visit_at k t j a e = go (entry None (visits_of_train d routes (of_plan routes plan) t) j) e
    where
      go : (p : Option PathNode) → option_and_then (pass_tick d routes (of_plan routes plan) k t) p ≡ Some a → option_and_then (pass_tick d routes (of_plan routes plan) a t) p ≡ Some a
      go None h = cc
      go (Some p) h = least_at (happened_by d routes (of_plan routes plan) t p.event) k a h

  -- a visit that is made by k is made at one tick, whenever one looks
  pub visit_once : (k l : ℕ) (t : TrainNo) (j a b : ℕ) → visit_tick d routes (of_plan routes plan) k t j ≡ Some a → visit_tick d routes (of_plan routes plan) l t j ≡ Some b → a ≡ b
  visit_once k l t j a b e f =
      let one = visit_stays k l t j a e in
      let two = visit_stays l k t j b f in
      let same : l + k ≡ k + l = omega arith in
      let other = subst (λ n. visit_tick d routes (of_plan routes plan) n t j ≡ Some b) same two in
      let both_some : Some a ≡ Some b = sym one ∙ other in cc

  -- ---- orders

  made : (k : ℕ) (t : TrainNo) (j : ℕ) → visited_by d routes plan k t j ≡ true → (a : ℕ) × (visit_tick d routes (of_plan routes plan) k t j ≡ Some a)
  made k t j h = go (visit_tick d routes (of_plan routes plan) k t j) refl h
    where
      go : (o : Option ℕ) → visit_tick d routes (of_plan routes plan) k t j ≡ o → is_some o ≡ true → (a : ℕ) × (visit_tick d routes (of_plan routes plan) k t j ≡ Some a)
      go None e h = cc
      go (Some a) e h = (a, e)

  not_made_before : (k a l : ℕ) (t : TrainNo) (j : ℕ) → visit_tick d routes (of_plan routes plan) k t j ≡ Some a → l < a → visited_by d routes plan l t j ≡ false
  not_made_before k a l t j e less = go (visit_tick d routes (of_plan routes plan) l t j) refl
    where
      go : (o : Option ℕ) → visit_tick d routes (of_plan routes plan) l t j ≡ o → is_some o ≡ false
      go None h = refl
      go (Some b) h = let same = visit_once k l t j a b e h in let w = visit_within l t j b h in absurd (omega arith)

  -- where both visits are made by k and the order was never broken up to k, it is kept
  pub order_kept : (k : ℕ) (o : ℕ) → visited_by d routes plan k (order_of d o).first_train (order_of d o).first_visit ≡ true → visited_by d routes plan k (order_of d o).then_train (order_of d o).then_visit ≡ true
      → ((i : ℕ) → 1 ≤ i → i ≤ k → is_certain d routes plan i (violation.Order o) ≡ false) → keeps_order d routes plan k (order_of d o) ≡ true
  order_kept k o first after never = go (made k (order_of d o).first_train (order_of d o).first_visit first) (made k (order_of d o).then_train (order_of d o).then_visit after)
    where
      go : ((a : ℕ) × (visit_tick d routes (of_plan routes plan) k (order_of d o).first_train (order_of d o).first_visit ≡ Some a)) → ((b : ℕ) × (visit_tick d routes (of_plan routes plan) k (order_of d o).then_train (order_of d o).then_visit ≡ Some b)) → keeps_order d routes plan k (order_of d o) ≡ true
      go (a, ea) (b, eb) = ap₂ (both nat_lt) ea eb ∙ less (nat_lt a b) refl
        where
          less : (t : Bool) → nat_lt a b ≡ t → nat_lt a b ≡ true
          less true e = e
          less false e =
              let w = visit_within k (order_of d o).then_train (order_of d o).then_visit b eb in
              let late : b < suc a = leb-false (suc a) b e in
              let broken : is_certain d routes plan b (violation.Order o) ≡ true =
              and_both _ _ (ap (λ x. is_after 0 x b) (visit_at k (order_of d o).then_train (order_of d o).then_visit b eb) ∙ eq-eqb (b + 0) b (omega arith))
              (ap not (not_made_before k a (b - 1) (order_of d o).first_train (order_of d o).first_visit ea (omega arith))) in
              absurd (true≢false (sym broken ∙ never b w.0 w.1))

  -- ---- withins

  -- and so is each within, where k is at most the horizon
  pub within_kept : 1 ≤ d.tick_ms → (k : ℕ) (w : ℕ) → k ≤ horizon d → visited_by d routes plan k (within_of d w).from_train (within_of d w).from_visit ≡ true → visited_by d routes plan k (within_of d w).to_train (within_of d w).to_visit ≡ true
      → ((i : ℕ) → 1 ≤ i → i ≤ k → is_certain d routes plan i (violation.Within w) ≡ false) → keeps_within d routes plan k (within_of d w) ≡ true
  within_kept ticks k w near from to never = go (made k (within_of d w).from_train (within_of d w).from_visit from) (made k (within_of d w).to_train (within_of d w).to_visit to)
    where
      go : ((a : ℕ) × (visit_tick d routes (of_plan routes plan) k (within_of d w).from_train (within_of d w).from_visit ≡ Some a)) → ((b : ℕ) × (visit_tick d routes (of_plan routes plan) k (within_of d w).to_train (within_of d w).to_visit ≡ Some b)) → keeps_within d routes plan k (within_of d w) ≡ true
      go (a, ea) (b, eb) = ap₂ (both (λ from to. nat_le (to * d.tick_ms) (from * d.tick_ms + (within_of d w).max_ms))) ea eb ∙ soon (nat_le b (a + most_ticks d (within_of d w))) refl
        where
          soon : (t : Bool) → nat_le b (a + most_ticks d (within_of d w)) ≡ t → nat_le (b * d.tick_ms) (a * d.tick_ms + (within_of d w).max_ms) ≡ true
          soon true e = le-leb _ _ (in_ms d.tick_ms (within_of d w).max_ms a b ticks (leb-true b (a + most_ticks d (within_of d w)) e))
          soon false e =
              let m = most_ticks d (within_of d w) in
              let x = visit_within k (within_of d w).from_train (within_of d w).from_visit a ea in
              let y = visit_within k (within_of d w).to_train (within_of d w).to_visit b eb in
              let late : a + m < b = leb-false b (a + m) e in
              let broken : is_certain d routes plan (a + m) (violation.Within w) ≡ true =
              and_both _ _ (and_both _ _ (le-leb (a + m) (horizon d) (omega arith))
              (ap (λ z. is_after m z (a + m)) (visit_stays a m (within_of d w).from_train (within_of d w).from_visit a (visit_at k (within_of d w).from_train (within_of d w).from_visit a ea)) ∙ eq-eqb (a + m) (a + m) refl))
              (ap not (not_made_before k b (a + m) (within_of d w).to_train (within_of d w).to_visit eb late)) in
              absurd (true≢false (sym broken ∙ never (a + m) (omega arith) (omega arith)))
