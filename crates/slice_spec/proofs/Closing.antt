-- Closed horizons: the last tick for all trains is closed, and the lower of two closed families is, too.
use Rattle.std.proofs.Common.{◌≡◌, ℕ, zero, suc, ◌+◌, ◌-◌, ◌≤◌, ◌<◌, ◌⊎◌, inl, inr, min, Bool, true, false, cond, not, ◌&&◌, ◌||◌, if◌then◌else◌, nat_le, ◌==◌, List, [], ◌∷◌, length, slice_get, Option, None, Some, refl, sym, ap, subst, ◌∙◌, arith, leb-true, le-leb, eqb-true, eq-eqb, true≢false}
use Rattle.std.specs.List.{list_all}
use Rattle.rail_base.specs.declared.station.Station.{Station}
use Rattle.rail_base.specs.declared.station.TrainNo.{TrainNo}
use Rattle.rail_base.specs.declared.route.Route.{Route}
use Rattle.rail_base.specs.declared.route.RouteNo.{RouteNo}
use Rattle.rail_base.specs.declared.plan.Command.{Command}
use Rattle.rail_base.specs.declared.plan.Violation.{Violation}
use Rattle.rail_base.specs.declared.plan.Violation.TheVariants as violation
use Rattle.rail_base.specs.Numbering.{before_first}
use Rattle.rail_spec.specs.Plans.{route_at, is_route, shared, commands, path, preceding}
use Rattle.rail_base.specs.Stations.{trains, horizon, within_of, order_of}
use Rattle.rail_spec.specs.Requirements.{most_ticks, is_certain, is_after}
use Rattle.rail_base.proofs.Members.{In, and_left, and_right, and_both, list_all_at, below_or_not}
use Rattle.rail_spec.specs.Dispatches.{is_granted, has_released, has_cleared, is_ready, granted_with, granted_after}
use Rattle.rail_spec.specs.Dispatches.{pasts_at, state_at, of_plan}
use Rattle.rail_spec.specs.Visits.{visit_tick}
use Rattle.slice_spec.specs.Holders.{count_at, next_at, holder_for, holder_at, is_within, reaches, grants_reach, reaches_holder, IsClosedFamily}
use Rattle.rail_laws.proofs.Running.{run_up_to, is_granted_up_to, granted_at_least, granted_cleared}
use Rattle.slice_spec.proofs.Slicing.{in_trains_back}
use Rattle.cone_spec.proofs.Saying.{in_trains}
use Rattle.slice_spec.proofs.Holders.{Latest, latest_some, all_out, has_released_up_to}
use Rattle.rail_base.proofs.Lists.{list_all_from, length-map}
use Rattle.rail_laws.proofs.Standing.{in_path, at_in}

pub or_false : (a b : Bool) → (a ≡ true → b ≡ true) → (not a || b) ≡ true
or_false true b f = f refl
or_false false b f = refl

pub from_or : (a b : Bool) → (not a || b) ≡ true → a ≡ true → b ≡ true
from_or true b h e = h
from_or false b h e = absurd (true≢false (sym e))

module _ (d : Station) (routes : List Route) (plan : List (List Command)) (last : ℕ) where
  -- ---- the last tick for all

  abbrev all_last : TrainNo → ℕ
  all_last t = last

  pub after_gives : (m : ℕ) (o : Option ℕ) (i : ℕ) → is_after m o i ≡ true → (a : ℕ) × (o ≡ Some a) × (a + m ≡ i)
  after_gives m None i e = cc
  after_gives m (Some a) i e = (a, refl, eqb-true (a + m) i e)

  own_last : (v : Violation) → is_certain d routes plan last v ≡ true → reaches d routes plan last all_last v ≡ true
  own_last (violation.Path t j) c = refl
  own_last (violation.Within w) c = go (after_gives (most_ticks d (within_of d w)) _ last (and_right (nat_le last (horizon d)) _ (and_left (nat_le last (horizon d) && is_after (most_ticks d (within_of d w)) (visit_tick d routes (of_plan routes plan) last (within_of d w).from_train (within_of d w).from_visit) last) _ c)))
    where
      go : (a : ℕ) × (visit_tick d routes (of_plan routes plan) last (within_of d w).from_train (within_of d w).from_visit ≡ Some a) × (a + most_ticks d (within_of d w) ≡ last) → reaches d routes plan last all_last (violation.Within w) ≡ true
      go (a, made, at) = subst (λ o. is_within o (λ a. nat_le a last && nat_le (a + most_ticks d (within_of d w)) last) ≡ true) (sym made)
          (and_both _ _ (le-leb a last (omega arith)) (le-leb (a + most_ticks d (within_of d w)) last (omega arith)))
  own_last (violation.Order o) c = go (after_gives 0 _ last (and_left (is_after 0 (visit_tick d routes (of_plan routes plan) last (order_of d o).then_train (order_of d o).then_visit) last) _ c))
    where
      go : (a : ℕ) × (visit_tick d routes (of_plan routes plan) last (order_of d o).then_train (order_of d o).then_visit ≡ Some a) × (a + 0 ≡ last) → reaches d routes plan last all_last (violation.Order o) ≡ true
      go (a, made, at) = subst (λ x. is_within x (λ a. nat_le a last && nat_le a (last + 1)) ≡ true) (sym made)
          (and_both _ _ (le-leb a last (omega arith)) (le-leb a (last + 1) (omega arith)))
  own_last (violation.Grant t j) c = let e : last ≡ horizon d = eqb-true _ _ (and_left (last == horizon d) _ c) in le-leb (horizon d) last (omega arith)
  own_last (violation.Visit t j) c = let e : last ≡ horizon d = eqb-true _ _ (and_left (last == horizon d) _ c) in le-leb (horizon d) last (omega arith)

  pub last_closed : (v : Violation) → is_certain d routes plan last v ≡ true → IsClosedFamily d routes plan last all_last v
  last_closed v c = record {
    soon = list_all_from (λ (t : TrainNo). nat_le last last) (trains d) (λ t m. le-leb last last (omega arith));
    own = own_last v c;
    grants = list_all_from (grants_reach d routes plan last all_last) (commands plan) (λ c m. or_false _ _ (λ g. released_all c g));
    holders = list_all_from (λ t. reaches_holder d routes plan last all_last t (holder_at d routes plan last all_last t)) (trains d) (λ t m. holder_near (holder_at d routes plan last all_last t) t);
  }
    where
      released_all : (c : Command) → is_granted d routes (of_plan routes plan) (state_at d routes (of_plan routes plan) last) c ≡ true → list_all (λ e. has_cleared d routes (of_plan routes plan) (pasts_at d routes (of_plan routes plan) last) c e) (preceding routes plan c) ≡ true
      released_all c g =
          let cleared = granted_cleared d routes (of_plan routes plan) last c g in
          list_all_from (λ e. has_cleared d routes (of_plan routes plan) (pasts_at d routes (of_plan routes plan) last) c e) (preceding routes plan c) (λ e i.
          list_all_from (has_released d routes (of_plan routes plan) (pasts_at d routes (of_plan routes plan) last) e) (shared (route_at routes e.route) (route_at routes c.route)) (λ z j. cleared.each e z i j))

      holder_near : (o : Option Command) (t : TrainNo) → reaches_holder d routes plan last all_last t o ≡ true
      holder_near None t = refl
      holder_near (Some e) t = le-leb last (last + 1) (omega arith)

  -- ---- the lower of two

  pub before_first_at : (r : RouteNo) (xs : List RouteNo) (i : ℕ) → slice_get xs i ≡ Some r → length (before_first (λ x. is_route x r) xs) ≤ i
  before_first_at r [] i e = cc
  before_first_at r (x ∷ xs) zero e = let same : x ≡ r = cc in at (is_route x r) (ap (λ y. is_route y r) same ∙ eq-eqb r.0 r.0 refl)
    where
      at : (b : Bool) → b ≡ true → length (cond b [] (x ∷ before_first (λ y. is_route y r) xs)) ≤ 0
      at true k = omega arith
      at false k = absurd (true≢false (sym k))
  before_first_at r (x ∷ xs) (suc i) e = at (is_route x r) (before_first_at r xs i e)
    where
      at : (b : Bool) → length (before_first (λ y. is_route y r) xs) ≤ i → length (cond b [] (x ∷ before_first (λ y. is_route y r) xs)) ≤ suc i
      at true k = omega arith
      at false k = omega arith

  -- the next command of a train is not ready at a tick after which nothing is granted to it
  stuck : (t : TrainNo) (r : RouteNo) (k : ℕ) → 1 ≤ t.0 → t.0 ≤ length d.trains → slice_get (path plan t) (count_at d routes plan k t) ≡ Some r → count_at d routes plan (suc k) t ≡ count_at d routes plan k t
      → is_ready d routes (of_plan routes plan) (pasts_at d routes (of_plan routes plan) k) (record { train = t; route = r }) ≡ true → ⊥
  stuck t r k a b next same ready =
      let least = granted_at_least d routes (of_plan routes plan) k t a b refl in
      let new : granted_after d routes (of_plan routes plan) (pasts_at d routes (of_plan routes plan) k) t ≡ count_at d routes plan k t + 1 =
      ap (granted_with d routes (of_plan routes plan) (pasts_at d routes (of_plan routes plan) k) t) next ∙ ap (λ (x : Bool). if x then count_at d routes plan k t + 1 else count_at d routes plan k t) ready in
      omega arith

  -- what the rules ask of lower horizons, closed ones that are higher give
  module _ (v : Violation) (g h : TrainNo → ℕ) (soon : (t : TrainNo) → 1 ≤ t.0 → t.0 ≤ length d.trains → g t ≤ last) (ph : IsClosedFamily d routes plan last h v) where
    -- what c waits for is released by the higher horizon, where c is granted by the lower one
    pub released_by : (c e : Command) → In c (commands plan) → In e (preceding routes plan c) → g c.train ≤ h c.train → is_granted d routes (of_plan routes plan) (state_at d routes (of_plan routes plan) (g c.train)) c ≡ true → has_cleared d routes (of_plan routes plan) (pasts_at d routes (of_plan routes plan) (h e.train)) c e ≡ true
    released_by c e m i l k = list_all_at (λ e. has_cleared d routes (of_plan routes plan) (pasts_at d routes (of_plan routes plan) (h e.train)) c e) (preceding routes plan c) e
        (from_or _ _ (list_all_at (grants_reach d routes plan last h) (commands plan) c ph.grants m) (is_granted_up_to d routes (of_plan routes plan) (g c.train) (h c.train) c l k)) i

    -- the train of a holder at the lower horizon is followed far enough by the higher ones
    pub followed_by : (t : TrainNo) → 1 ≤ t.0 → t.0 ≤ length d.trains → g t ≤ h t → (e : Command) → holder_at d routes plan last g t ≡ Some e → g t ≤ h e.train + 1
    followed_by t a b l e k = go (nat_le 1 (g t) && (count_at d routes plan (g t - 1) t == count_at d routes plan (g t) t)) refl k
      where
        go : (x : Bool) → (nat_le 1 (g t) && (count_at d routes plan (g t - 1) t == count_at d routes plan (g t) t)) ≡ x → (if x then holder_for d routes plan last t (next_at d routes plan (g t) t) else None) ≡ Some e → g t ≤ h e.train + 1
        go false x s = cc
        go true x s = at (next_at d routes plan (g t) t) refl s
          where
            some : 1 ≤ g t
            some = leb-true 1 (g t) (and_left (nat_le 1 (g t)) _ x)

            none_new : count_at d routes plan (g t - 1) t ≡ count_at d routes plan (g t) t
            none_new = eqb-true _ _ (and_right (nat_le 1 (g t)) _ x)

            at : (o : Option RouteNo) → next_at d routes plan (g t) t ≡ o → holder_for d routes plan last t o ≡ Some e → g t ≤ h e.train + 1
            at None y s = cc
            at (Some r) y s = cases (below_or_not (count_at d routes plan (g t) t) (count_at d routes plan (h t) t))
              where
                more : count_at d routes plan (g t) t ≤ count_at d routes plan (h t) t
                more = (run_up_to d routes (of_plan routes plan) (g t) (h t) t l).granted

                is_latest : Latest d routes plan last (record { train = t; route = r }) (preceding routes plan (record { train = t; route = r })) e
                is_latest = latest_some d routes plan last (record { train = t; route = r }) (preceding routes plan (record { train = t; route = r })) e s

                -- it isn't granted by h's horizon, either: then it has the same holder there
                same_holder : count_at d routes plan (h t) t ≡ count_at d routes plan (g t) t → holder_at d routes plan last h t ≡ Some e
                same_holder c =
                    let low = (run_up_to d routes (of_plan routes plan) (g t - 1) (h t - 1) t (omega arith)).granted in
                    let high = (run_up_to d routes (of_plan routes plan) (h t - 1) (h t) t (omega arith)).granted in
                    let n = none_new in
                    let some_g = some in
                    let on : (nat_le 1 (h t) && (count_at d routes plan (h t - 1) t == count_at d routes plan (h t) t)) ≡ true = and_both _ _ (le-leb 1 (h t) (omega arith)) (eq-eqb (count_at d routes plan (h t - 1) t) (count_at d routes plan (h t) t) (omega arith)) in
                    ap (λ x. if x then holder_for d routes plan last t (next_at d routes plan (h t) t) else None) on
                    ∙ ap (λ i. holder_for d routes plan last t (slice_get (path plan t) i)) c ∙ ap (holder_for d routes plan last t) y ∙ s

                -- it is granted by then: so its holder is out of the way by its own train's horizon, and that isn't before
                by_release : count_at d routes plan (g t) t < count_at d routes plan (h t) t → g t ≤ h e.train + 1
                by_release c = near (below_or_not (h e.train + 1) (g t))
                  where
                    is_in : In (record { train = t; route = r }) (commands plan)
                    is_in = in_path t plan r (at_in (path plan t) (count_at d routes plan (g t) t) r y).0

                    granted : is_granted d routes (of_plan routes plan) (state_at d routes (of_plan routes plan) (h t)) (record { train = t; route = r }) ≡ true
                    granted = let p = before_first_at r (path plan t) (count_at d routes plan (g t) t) y in let m = length-map (route_at routes) (before_first (λ x. is_route x r) (path plan t)) in le-leb _ _ (omega arith)

                    out : has_cleared d routes (of_plan routes plan) (pasts_at d routes (of_plan routes plan) (h e.train)) (record { train = t; route = r }) e ≡ true
                    out = list_all_at (λ e. has_cleared d routes (of_plan routes plan) (pasts_at d routes (of_plan routes plan) (h e.train)) (record { train = t; route = r }) e) (preceding routes plan (record { train = t; route = r })) e
                        (from_or _ _ (list_all_at (grants_reach d routes plan last h) (commands plan) (record { train = t; route = r }) ph.grants is_in) granted) is_latest.member

                    near : (h e.train + 1 < g t) ⊎ (g t ≤ h e.train + 1) → g t ≤ h e.train + 1
                    near (inr m) = m
                    near (inl m) =
                        let up = soon t a b in
                        let all = all_out d routes plan last (record { train = t; route = r }) (g t - 1) e (omega arith) is_latest (has_released_up_to d routes plan last (record { train = t; route = r }) (h e.train) (g t - 1) e (omega arith) out) in
                        let s : suc (g t - 1) ≡ g t = omega arith in
                        absurd (stuck t r (g t - 1) a b (ap (slice_get (path plan t)) none_new ∙ y) (ap (λ i. count_at d routes plan i t) s ∙ sym none_new) all)

                cases : (count_at d routes plan (g t) t < count_at d routes plan (h t) t) ⊎ (count_at d routes plan (h t) t ≤ count_at d routes plan (g t) t) → g t ≤ h e.train + 1
                cases (inl c) = by_release c
                cases (inr c) =
                    let m = more in
                    let k = same_holder (omega arith) in
                    let r = leb-true _ _ (subst (λ o. reaches_holder d routes plan last h t o ≡ true) k (list_all_at (λ t. reaches_holder d routes plan last h t (holder_at d routes plan last h t)) (trains d) t ph.holders (in_trains d t a b))) in
                    omega arith

  abbrev pub lower : (TrainNo → ℕ) → (TrainNo → ℕ) → TrainNo → ℕ
  lower g h t = min (g t) (h t)

  -- a holder depends on the train's own horizon alone
  pub own_horizon : (g h : TrainNo → ℕ) (t : TrainNo) → g t ≡ h t → holder_at d routes plan last g t ≡ holder_at d routes plan last h t
  own_horizon g h t e = ap (λ i. if nat_le 1 i && (count_at d routes plan (i - 1) t == count_at d routes plan i t) then holder_for d routes plan last t (next_at d routes plan i t) else None) e ∙ same_for (nat_le 1 (h t) && (count_at d routes plan (h t - 1) t == count_at d routes plan (h t) t)) (next_at d routes plan (h t) t)
    where
      same_for : (b : Bool) (o : Option RouteNo) → (if b then holder_for d routes plan last t o else None) ≡ (if b then holder_for d routes plan last t o else None)
      same_for b None = refl
      same_for b (Some r) = refl

  pub lower_closed : (v : Violation) (g h : TrainNo → ℕ) → IsClosedFamily d routes plan last g v → IsClosedFamily d routes plan last h v → IsClosedFamily d routes plan last (lower g h) v
  lower_closed v g h pg ph = record { soon = soon; own = own v pg.own ph.own; grants = grants; holders = holders }
    where
      early : (f : TrainNo → ℕ) → IsClosedFamily d routes plan last f v → (t : TrainNo) → 1 ≤ t.0 → t.0 ≤ length d.trains → f t ≤ last
      early f p t a b = leb-true (f t) last (list_all_at (λ t. nat_le (f t) last) (trains d) t p.soon (in_trains d t a b))

      soon : list_all (λ t. nat_le (min (g t) (h t)) last) (trains d) ≡ true
      soon = list_all_from (λ (t : TrainNo). nat_le (min (g t) (h t)) last) (trains d) (λ t m. let a = leb-true (g t) last (list_all_at (λ t. nat_le (g t) last) (trains d) t pg.soon m) in le-leb (min (g t) (h t)) last (omega arith))

      both_le : (a x y : ℕ) → nat_le a x ≡ true → nat_le a y ≡ true → nat_le a (min x y) ≡ true
      both_le a x y k l = let m = leb-true a x k in let n = leb-true a y l in le-leb a (min x y) (omega arith)

      both_next : (a x y : ℕ) → nat_le a (x + 1) ≡ true → nat_le a (y + 1) ≡ true → nat_le a (min x y + 1) ≡ true
      both_next a x y k l = let m = leb-true a (x + 1) k in let n = leb-true a (y + 1) l in le-leb a (min x y + 1) (omega arith)

      own : (v : Violation) → reaches d routes plan last g v ≡ true → reaches d routes plan last h v ≡ true → reaches d routes plan last (lower g h) v ≡ true
      own (violation.Path t j) k l = refl
      own (violation.Within w) k l = go (visit_tick d routes (of_plan routes plan) last (within_of d w).from_train (within_of d w).from_visit) k l
        where
          M : ℕ
          M = most_ticks d (within_of d w)

          go : (o : Option ℕ) → is_within o (λ a. nat_le a (g (within_of d w).from_train) && nat_le (a + most_ticks d (within_of d w)) (g (within_of d w).to_train)) ≡ true → is_within o (λ a. nat_le a (h (within_of d w).from_train) && nat_le (a + most_ticks d (within_of d w)) (h (within_of d w).to_train)) ≡ true
              → is_within o (λ a. nat_le a (lower g h (within_of d w).from_train) && nat_le (a + most_ticks d (within_of d w)) (lower g h (within_of d w).to_train)) ≡ true
          go None k l = k
          go (Some a) k l = and_both _ _ (both_le a (g (within_of d w).from_train) (h (within_of d w).from_train) (and_left (nat_le a (g (within_of d w).from_train)) _ k) (and_left (nat_le a (h (within_of d w).from_train)) _ l))
              (both_le (a + most_ticks d (within_of d w)) (g (within_of d w).to_train) (h (within_of d w).to_train) (and_right (nat_le a (g (within_of d w).from_train)) _ k) (and_right (nat_le a (h (within_of d w).from_train)) _ l))
      own (violation.Order o) k l = go (visit_tick d routes (of_plan routes plan) last (order_of d o).then_train (order_of d o).then_visit) k l
        where
          go : (x : Option ℕ) → is_within x (λ a. nat_le a (g (order_of d o).then_train) && nat_le a (g (order_of d o).first_train + 1)) ≡ true → is_within x (λ a. nat_le a (h (order_of d o).then_train) && nat_le a (h (order_of d o).first_train + 1)) ≡ true
              → is_within x (λ a. nat_le a (lower g h (order_of d o).then_train) && nat_le a (lower g h (order_of d o).first_train + 1)) ≡ true
          go None k l = k
          go (Some a) k l = and_both _ _ (both_le a (g (order_of d o).then_train) (h (order_of d o).then_train) (and_left (nat_le a (g (order_of d o).then_train)) _ k) (and_left (nat_le a (h (order_of d o).then_train)) _ l))
              (both_next a (g (order_of d o).first_train) (h (order_of d o).first_train) (and_right (nat_le a (g (order_of d o).then_train)) _ k) (and_right (nat_le a (h (order_of d o).then_train)) _ l))
      own (violation.Grant t j) k l = both_le (horizon d) (g t) (h t) k l
      own (violation.Visit t j) k l = both_le (horizon d) (g t) (h t) k l

      at_lower : (P : ℕ → Type 0) (t : TrainNo) → P (g t) → P (h t) → P (min (g t) (h t))
      at_lower P t a b = go (below_or_not (g t) (h t))
        where
          go : (g t < h t) ⊎ (h t ≤ g t) → P (min (g t) (h t))
          go (inl l) = let e : g t ≡ min (g t) (h t) = omega arith in subst P e a
          go (inr l) = let e : h t ≡ min (g t) (h t) = omega arith in subst P e b

      grants : list_all (grants_reach d routes plan last (lower g h)) (commands plan) ≡ true
      grants = list_all_from (grants_reach d routes plan last (lower g h)) (commands plan) (λ c m. or_false _ _ (λ k.
          let in_g = from_or _ _ (list_all_at (grants_reach d routes plan last g) (commands plan) c pg.grants m) (is_granted_up_to d routes (of_plan routes plan) (min (g c.train) (h c.train)) (g c.train) c (omega arith) k) in
          let in_h = from_or _ _ (list_all_at (grants_reach d routes plan last h) (commands plan) c ph.grants m) (is_granted_up_to d routes (of_plan routes plan) (min (g c.train) (h c.train)) (h c.train) c (omega arith) k) in
          list_all_from (λ e. has_cleared d routes (of_plan routes plan) (pasts_at d routes (of_plan routes plan) (lower g h e.train)) c e) (preceding routes plan c) (λ e i.
          at_lower (λ x. has_cleared d routes (of_plan routes plan) (pasts_at d routes (of_plan routes plan) x) c e ≡ true) e.train
          (list_all_at (λ e. has_cleared d routes (of_plan routes plan) (pasts_at d routes (of_plan routes plan) (g e.train)) c e) (preceding routes plan c) e in_g i)
          (list_all_at (λ e. has_cleared d routes (of_plan routes plan) (pasts_at d routes (of_plan routes plan) (h e.train)) c e) (preceding routes plan c) e in_h i))))

      holders : list_all (λ t. reaches_holder d routes plan last (lower g h) t (holder_at d routes plan last (lower g h) t)) (trains d) ≡ true
      holders = list_all_from (λ t. reaches_holder d routes plan last (lower g h) t (holder_at d routes plan last (lower g h) t)) (trains d) (λ t m. let i = in_trains_back d t m in each t i.0 i.1 (holder_at d routes plan last (lower g h) t) refl)
        where
          by : (f : TrainNo → ℕ) (p : IsClosedFamily d routes plan last f v) (t : TrainNo) (e : Command) → 1 ≤ t.0 → t.0 ≤ length d.trains → holder_at d routes plan last f t ≡ Some e → f t ≤ f e.train + 1
          by f p t e a b k = leb-true _ _ (subst (λ o. reaches_holder d routes plan last f t o ≡ true) k (list_all_at (λ t. reaches_holder d routes plan last f t (holder_at d routes plan last f t)) (trains d) t p.holders (in_trains d t a b)))

          each : (t : TrainNo) → 1 ≤ t.0 → t.0 ≤ length d.trains → (o : Option Command) → holder_at d routes plan last (lower g h) t ≡ o → reaches_holder d routes plan last (lower g h) t o ≡ true
          each t a b None k = refl
          each t a b (Some e) k = go (below_or_not (g t) (h t))
            where
              go : (g t < h t) ⊎ (h t ≤ g t) → nat_le (min (g t) (h t)) (min (g e.train) (h e.train) + 1) ≡ true
              go (inl l) =
                  let of_g : holder_at d routes plan last g t ≡ Some e = own_horizon g (lower g h) t (omega arith) ∙ k in
                  let x = by g pg t e a b of_g in
                  let y = followed_by v g h (early g pg) ph t a b (omega arith) e of_g in
                  le-leb (min (g t) (h t)) (min (g e.train) (h e.train) + 1) (omega arith)
              go (inr l) =
                  let of_h : holder_at d routes plan last h t ≡ Some e = own_horizon h (lower g h) t (omega arith) ∙ k in
                  let x = by h ph t e a b of_h in
                  let y = followed_by v h g (early h ph) pg t a b l e of_h in
                  le-leb (min (g t) (h t)) (min (g e.train) (h e.train) + 1) (omega arith)
