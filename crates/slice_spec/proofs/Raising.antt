-- Horizons that are raised no further than what they show asks for stay at or below every closed family, and are closed once they reach all of it.
use Rattle.std.proofs.Common.{◌≡◌, ℕ, zero, suc, ◌+◌, ◌-◌, ◌≤◌, ◌<◌, ◌⊎◌, inl, inr, Bool, true, false, ◌&&◌, ◌==◌, nat_le, List, Option, None, Some, refl, sym, ap, subst, ◌∙◌, arith, leb-true, le-leb, eqb-true}
use Rattle.rail_base.specs.declared.station.Station.{Station}
use Rattle.rail_base.specs.declared.station.TrainNo.{TrainNo}
use Rattle.rail_base.specs.declared.route.Route.{Route}
use Rattle.rail_base.specs.declared.plan.Command.{Command}
use Rattle.rail_base.specs.declared.plan.Violation.{Violation}
use Rattle.rail_base.specs.declared.plan.Violation.TheVariants as violation
use Rattle.rail_base.specs.Numbering.{least, or_this}
use Rattle.rail_base.specs.Stations.{IsTrain, trains, horizon, within_of, order_of}
use Rattle.rail_base.proofs.Members.{In, and_left, and_right, and_both, list_all_at, below_or_not}
use Rattle.rail_base.proofs.Lists.{list_all_from}
use Rattle.rail_spec.specs.Plans.{commands, preceding, route_at, shared}
use Rattle.rail_spec.specs.Requirements.{most_ticks, is_certain, is_after}
use Rattle.rail_spec.specs.Visits.{visit_tick}
use Rattle.rail_spec.specs.Dispatches.{is_granted, has_released, has_cleared, pasts_at, state_at, of_plan}
use Rattle.rail_laws.proofs.Deciding.{least_gives}
use Rattle.rail_laws.proofs.Running.{is_granted_up_to, granted_cleared}
use Rattle.slice_spec.specs.Holders.{clear_tick, holder_at, is_within, reaches, grants_reach, reaches_holder, IsClosedFamily}
use Rattle.slice_spec.specs.Leasts.{violation_horizons}
use Rattle.slice_spec.proofs.Holders.{least_found, not_at_first, has_released_up_to}
use Rattle.slice_spec.proofs.Slicing.{in_trains_back}
use Rattle.slice_spec.proofs.Closing.{or_false, from_or, after_gives, followed_by}

-- a number that passes is found, or one before it
found_by : (test : ℕ → Bool) (n b : ℕ) → 1 ≤ b → b ≤ n → test b ≡ true → least test n ≡ None → ⊥
found_by test zero b low l t e = absurd (omega arith)
found_by test (suc n) b low l t e = go (below_or_not b (suc n)) (least test n) refl e (λ l. found_by test n b low l t)
  where
    go : (b < suc n) ⊎ (suc n ≤ b) → (o : Option ℕ) → least test n ≡ o → or_this o (test (suc n)) (suc n) ≡ None → (b ≤ n → least test n ≡ None → ⊥) → ⊥
    go w (Some k) eo h before = cc
    go (inl m) None eo h before = before (omega arith) eo
    go (inr m) None eo h before =
        let same : b ≡ suc n = omega arith in
        let bad : Some (suc n) ≡ None = sym (ap (λ x. or_this None x (suc n)) (ap test (sym same) ∙ t)) ∙ h in
        cc

-- the least number that passes is no later than any that does
pub least_below : (test : ℕ → Bool) (n a b : ℕ) → least test n ≡ Some a → 1 ≤ b → test b ≡ true → a ≤ b
least_below test zero a b e low t = cc
least_below test (suc n) a b e low t = go (least test n) refl (test (suc n)) refl e (λ h. least_below test n a b h low t)
  where
    go : (o : Option ℕ) → least test n ≡ o → (x : Bool) → test (suc n) ≡ x → or_this o x (suc n) ≡ Some a → (least test n ≡ Some a → a ≤ b) → a ≤ b
    go (Some k) eo x ex h before = before (eo ∙ h)
    go None eo true ex h before = at (below_or_not b (suc n)) cc
      where
        at : (b < suc n) ⊎ (suc n ≤ b) → suc n ≡ a → a ≤ b
        at (inl l) s = absurd (found_by test n b low (omega arith) t eo)
        at (inr m) s = omega arith
    go None eo false ex h before = cc

-- one train and tick
pub train_of_pair : (t u : TrainNo) (a b : ℕ) → (let p : TrainNo × Option ℕ = (t, Some a) in let q : TrainNo × Option ℕ = (u, Some b) in p ≡ q) → t ≡ u
train_of_pair t u a b e = ap (λ (p : TrainNo × Option ℕ). p.0) e

pub tick_of_pair : (t u : TrainNo) (a b : ℕ) → (let p : TrainNo × Option ℕ = (t, Some a) in let q : TrainNo × Option ℕ = (u, Some b) in p ≡ q) → a ≡ b
tick_of_pair t u a b e = let s : Some a ≡ Some b = ap (λ (p : TrainNo × Option ℕ). p.1) e in cc

module _ (d : Station) (routes : List Route) (plan : List (List Command)) (last : ℕ) where
  -- what a command waits for has cleared it at a tick, where it is granted
  pub clears : (k : ℕ) → k ≤ last → (c e : Command) → In e (preceding routes plan c) → is_granted d routes (of_plan routes plan) (state_at d routes (of_plan routes plan) k) c ≡ true → (a : ℕ) × (clear_tick d routes plan last c e ≡ Some a)
  clears k l c e i g = least_found (λ k. has_cleared d routes (of_plan routes plan) (pasts_at d routes (of_plan routes plan) k) c e) last (some k l g) cleared_last
    where
      cleared : has_cleared d routes (of_plan routes plan) (pasts_at d routes (of_plan routes plan) k) c e ≡ true
      cleared = let r = granted_cleared d routes (of_plan routes plan) k c g in list_all_from (has_released d routes (of_plan routes plan) (pasts_at d routes (of_plan routes plan) k) e) (shared (route_at routes e.route) (route_at routes c.route)) (λ z j. r.each e z i j)

      cleared_last : has_cleared d routes (of_plan routes plan) (pasts_at d routes (of_plan routes plan) last) c e ≡ true
      cleared_last = has_released_up_to d routes plan last c k last e l cleared

      some : (k : ℕ) → k ≤ last → is_granted d routes (of_plan routes plan) (state_at d routes (of_plan routes plan) k) c ≡ true → 1 ≤ last
      some k l g = at last refl
        where
          at : (n : ℕ) → last ≡ n → 1 ≤ n
          at zero z = absurd (not_at_first d routes plan last c e i (subst (λ n. has_cleared d routes (of_plan routes plan) (pasts_at d routes (of_plan routes plan) n) c e ≡ true) z cleared_last))
          at (suc n) z = omega arith

  -- ---- what a closed family reaches

  module _ (v : Violation) (g : TrainNo → ℕ) (closed : IsClosedFamily d routes plan last g v) where
    -- the ticks at which what a granted command waits for cleared it
    pub reaches_clear : (c e : Command) → In c (commands plan) → In e (preceding routes plan c) → (k : ℕ) → k ≤ g c.train → is_granted d routes (of_plan routes plan) (state_at d routes (of_plan routes plan) k) c ≡ true → (a : ℕ) → clear_tick d routes plan last c e ≡ Some a → a ≤ g e.train
    reaches_clear c e m i k l granted a at = go (g e.train) refl
      where
        cleared : has_cleared d routes (of_plan routes plan) (pasts_at d routes (of_plan routes plan) (g e.train)) c e ≡ true
        cleared = list_all_at (λ e. has_cleared d routes (of_plan routes plan) (pasts_at d routes (of_plan routes plan) (g e.train)) c e) (preceding routes plan c) e
            (from_or _ _ (list_all_at (grants_reach d routes plan last g) (commands plan) c closed.grants m) (is_granted_up_to d routes (of_plan routes plan) k (g c.train) c l granted)) i

        go : (n : ℕ) → g e.train ≡ n → a ≤ g e.train
        go zero z = absurd (not_at_first d routes plan last c e i (subst (λ n. has_cleared d routes (of_plan routes plan) (pasts_at d routes (of_plan routes plan) n) c e ≡ true) z cleared))
        go (suc n) z = least_below (λ k. has_cleared d routes (of_plan routes plan) (pasts_at d routes (of_plan routes plan) k) c e) last a (g e.train) at (omega arith) cleared

    -- the tick before that up to which a train is held up
    pub reaches_held : (t : TrainNo) → IsTrain d t → (k : ℕ) → k ≤ last → k ≤ g t → (e : Command) → holder_at d routes plan last (λ u. k) t ≡ Some e → k - 1 ≤ g e.train
    reaches_held t is k l m e at = let x = followed_by d routes plan last v (λ u. k) g (λ t a b. l) closed t is.0 is.1 m e at in omega arith

  -- ---- what a violation asks for

  -- a closed family reaches it
  pub reaches_asked : (v : Violation) → is_certain d routes plan last v ≡ true → (g : TrainNo → ℕ) → IsClosedFamily d routes plan last g v → (t : TrainNo) (k : ℕ) → In (t, Some k) (violation_horizons d last v) → k ≤ g t
  reaches_asked (violation.Path u j) c g closed t k m = absurd m
  reaches_asked (violation.Within w) c g closed t k m = go (after_gives d routes plan last M _ last (and_right (nat_le last (horizon d)) _ (and_left (nat_le last (horizon d) && is_after M (visit_tick d routes (of_plan routes plan) last (within_of d w).from_train (within_of d w).from_visit) last) _ c))) m
    where
      M : ℕ
      M = most_ticks d (within_of d w)

      go : (a : ℕ) × (visit_tick d routes (of_plan routes plan) last (within_of d w).from_train (within_of d w).from_visit ≡ Some a) × (a + most_ticks d (within_of d w) ≡ last) → In (t, Some k) (violation_horizons d last (violation.Within w)) → k ≤ g t
      go (a, made, at) m =
          let own : (nat_le a (g (within_of d w).from_train) && nat_le (a + most_ticks d (within_of d w)) (g (within_of d w).to_train)) ≡ true = subst (λ o. is_within o (λ a. nat_le a (g (within_of d w).from_train) && nat_le (a + most_ticks d (within_of d w)) (g (within_of d w).to_train)) ≡ true) made closed.own in
          pick (leb-true _ _ (and_left (nat_le a (g (within_of d w).from_train)) _ own)) (leb-true _ _ (and_right (nat_le a (g (within_of d w).from_train)) _ own)) m
        where
          pick : a ≤ g (within_of d w).from_train → a + most_ticks d (within_of d w) ≤ g (within_of d w).to_train → In (t, Some k) (violation_horizons d last (violation.Within w)) → k ≤ g t
          pick x y (inl e) = let f = train_of_pair (within_of d w).from_train t (last - most_ticks d (within_of d w)) k e in let n = tick_of_pair (within_of d w).from_train t (last - most_ticks d (within_of d w)) k e in subst (λ u. k ≤ g u) f (omega arith)
          pick x y (inr (inl e)) = let f = train_of_pair (within_of d w).to_train t (last) k e in let n = tick_of_pair (within_of d w).to_train t (last) k e in subst (λ u. k ≤ g u) f (omega arith)
          pick x y (inr (inr m)) = absurd m
  reaches_asked (violation.Order o) c g closed t k m = go (after_gives d routes plan last 0 _ last (and_left (is_after 0 (visit_tick d routes (of_plan routes plan) last (order_of d o).then_train (order_of d o).then_visit) last) _ c)) m
    where
      go : (a : ℕ) × (visit_tick d routes (of_plan routes plan) last (order_of d o).then_train (order_of d o).then_visit ≡ Some a) × (a + 0 ≡ last) → In (t, Some k) (violation_horizons d last (violation.Order o)) → k ≤ g t
      go (a, made, at) m =
          let own : (nat_le a (g (order_of d o).then_train) && nat_le a (g (order_of d o).first_train + 1)) ≡ true = subst (λ x. is_within x (λ a. nat_le a (g (order_of d o).then_train) && nat_le a (g (order_of d o).first_train + 1)) ≡ true) made closed.own in
          pick (leb-true _ _ (and_left (nat_le a (g (order_of d o).then_train)) _ own)) (leb-true _ _ (and_right (nat_le a (g (order_of d o).then_train)) _ own)) m
        where
          pick : a ≤ g (order_of d o).then_train → a ≤ g (order_of d o).first_train + 1 → In (t, Some k) (violation_horizons d last (violation.Order o)) → k ≤ g t
          pick x y (inl e) = let f = train_of_pair (order_of d o).then_train t (last) k e in let n = tick_of_pair (order_of d o).then_train t (last) k e in subst (λ u. k ≤ g u) f (omega arith)
          pick x y (inr (inl e)) = let f = train_of_pair (order_of d o).first_train t (last - 1) k e in let n = tick_of_pair (order_of d o).first_train t (last - 1) k e in subst (λ u. k ≤ g u) f (omega arith)
          pick x y (inr (inr m)) = absurd m
  reaches_asked (violation.Grant u j) c g closed t k m = pick (leb-true (horizon d) (g u) closed.own) (eqb-true last (horizon d) (and_left (last == horizon d) _ c)) m
    where
      pick : horizon d ≤ g u → last ≡ horizon d → In (t, Some k) (violation_horizons d last (violation.Grant u j)) → k ≤ g t
      pick x y (inl e) = let f = train_of_pair u t (last) k e in let n = tick_of_pair u t (last) k e in subst (λ u. k ≤ g u) f (omega arith)
      pick x y (inr m) = absurd m
  reaches_asked (violation.Visit u j) c g closed t k m = pick (leb-true (horizon d) (g u) closed.own) (eqb-true last (horizon d) (and_left (last == horizon d) _ c)) m
    where
      pick : horizon d ≤ g u → last ≡ horizon d → In (t, Some k) (violation_horizons d last (violation.Visit u j)) → k ≤ g t
      pick x y (inl e) = let f = train_of_pair u t (last) k e in let n = tick_of_pair u t (last) k e in subst (λ u. k ≤ g u) f (omega arith)
      pick x y (inr m) = absurd m

  -- a family that reaches it shows the violation
  pub own_of : (v : Violation) → is_certain d routes plan last v ≡ true → (h : TrainNo → ℕ) → ((t : TrainNo) (k : ℕ) → In (t, Some k) (violation_horizons d last v) → k ≤ h t) → reaches d routes plan last h v ≡ true
  own_of (violation.Path u j) c h met = refl
  own_of (violation.Within w) c h met = go (after_gives d routes plan last M _ last (and_right (nat_le last (horizon d)) _ (and_left (nat_le last (horizon d) && is_after M (visit_tick d routes (of_plan routes plan) last (within_of d w).from_train (within_of d w).from_visit) last) _ c)))
    where
      M : ℕ
      M = most_ticks d (within_of d w)

      go : (a : ℕ) × (visit_tick d routes (of_plan routes plan) last (within_of d w).from_train (within_of d w).from_visit ≡ Some a) × (a + most_ticks d (within_of d w) ≡ last) → reaches d routes plan last h (violation.Within w) ≡ true
      go (a, made, at) =
          let x = met (within_of d w).from_train (last - most_ticks d (within_of d w)) (inl refl) in
          let y = met (within_of d w).to_train last (inr (inl refl)) in
          subst (λ o. is_within o (λ a. nat_le a (h (within_of d w).from_train) && nat_le (a + most_ticks d (within_of d w)) (h (within_of d w).to_train)) ≡ true) (sym made)
          (and_both _ _ (le-leb a (h (within_of d w).from_train) (omega arith)) (le-leb (a + most_ticks d (within_of d w)) (h (within_of d w).to_train) (omega arith)))
  own_of (violation.Order o) c h met = go (after_gives d routes plan last 0 _ last (and_left (is_after 0 (visit_tick d routes (of_plan routes plan) last (order_of d o).then_train (order_of d o).then_visit) last) _ c))
    where
      go : (a : ℕ) × (visit_tick d routes (of_plan routes plan) last (order_of d o).then_train (order_of d o).then_visit ≡ Some a) × (a + 0 ≡ last) → reaches d routes plan last h (violation.Order o) ≡ true
      go (a, made, at) =
          let x = met (order_of d o).then_train last (inl refl) in
          let y = met (order_of d o).first_train (last - 1) (inr (inl refl)) in
          subst (λ x. is_within x (λ a. nat_le a (h (order_of d o).then_train) && nat_le a (h (order_of d o).first_train + 1)) ≡ true) (sym made)
          (and_both _ _ (le-leb a (h (order_of d o).then_train) (omega arith)) (le-leb a (h (order_of d o).first_train + 1) (omega arith)))
  own_of (violation.Grant u j) c h met = let x = met u last (inl refl) in let y = eqb-true last (horizon d) (and_left (last == horizon d) _ c) in le-leb (horizon d) (h u) (omega arith)
  own_of (violation.Visit u j) c h met = let x = met u last (inl refl) in let y = eqb-true last (horizon d) (and_left (last == horizon d) _ c) in le-leb (horizon d) (h u) (omega arith)

  -- ---- a family that reaches all that it shows is closed

  pub closed_of : (v : Violation) → is_certain d routes plan last v ≡ true → (h : TrainNo → ℕ) → ((t : TrainNo) → IsTrain d t → h t ≤ last) → ((c : Command) → In c (commands plan) → IsTrain d c.train)
      → ((t : TrainNo) (k : ℕ) → In (t, Some k) (violation_horizons d last v) → k ≤ h t)
      → ((c e : Command) → In c (commands plan) → In e (preceding routes plan c) → is_granted d routes (of_plan routes plan) (state_at d routes (of_plan routes plan) (h c.train)) c ≡ true → (a : ℕ) → clear_tick d routes plan last c e ≡ Some a → a ≤ h e.train)
      → ((t : TrainNo) → IsTrain d t → (e : Command) → holder_at d routes plan last (λ u. h t) t ≡ Some e → h t - 1 ≤ h e.train)
      → IsClosedFamily d routes plan last h v
  closed_of v certain h soon named own grants holders = record {
    soon = list_all_from (λ t. nat_le (h t) last) (trains d) (λ t m. le-leb (h t) last (soon t (in_trains_back d t m)));
    own = own_of v certain h own;
    grants = list_all_from (grants_reach d routes plan last h) (commands plan) (λ c m. or_false _ _ (λ g. list_all_from (λ e. has_cleared d routes (of_plan routes plan) (pasts_at d routes (of_plan routes plan) (h e.train)) c e) (preceding routes plan c) (λ e i. cleared c e m i g)));
    holders = list_all_from (λ t. reaches_holder d routes plan last h t (holder_at d routes plan last h t)) (trains d) (λ t m. holder_fits t (in_trains_back d t m) (holder_at d routes plan last h t) refl);
  }
    where
      cleared : (c e : Command) → In c (commands plan) → In e (preceding routes plan c) → is_granted d routes (of_plan routes plan) (state_at d routes (of_plan routes plan) (h c.train)) c ≡ true → has_cleared d routes (of_plan routes plan) (pasts_at d routes (of_plan routes plan) (h e.train)) c e ≡ true
      cleared c e m i g =
          let a = clears (h c.train) (soon c.train (named c m)) c e i g in
          let at = least_gives (λ k. has_cleared d routes (of_plan routes plan) (pasts_at d routes (of_plan routes plan) k) c e) last a.0 a.1 in
          has_released_up_to d routes plan last c a.0 (h e.train) e (grants c e m i g a.0 a.1) at.passes

      holder_fits : (t : TrainNo) → IsTrain d t → (o : Option Command) → holder_at d routes plan last h t ≡ o → reaches_holder d routes plan last h t o ≡ true
      holder_fits t is None k = refl
      holder_fits t is (Some e) k = let x = holders t is e k in le-leb (h t) (h e.train + 1) (omega arith)
