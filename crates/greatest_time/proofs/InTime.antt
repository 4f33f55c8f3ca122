-- A plan that meets a design with one greatest time meets it with each that it keeps to.
use Rattle.std.proofs.Common.{◌≡◌, ℕ, zero, suc, ◌+◌, ◌-◌, ◌*◌, ◌≤◌, ◌<◌, ◌↔◌, Bool, true, ◌&&◌, nat_le, List, [], ◌∷◌, length, slice_index_or, slice_set, Option, None, Some, refl, sym, ap, ap₂, subst, ◌∙◌, arith, leb-true, le-leb, mul-le-mul, le_refl, get_or-set_same, set-set}
use Rattle.std.specs.List.{list_all}
use Rattle.std.proofs.lemmas.List.{set-get_or}
use Rattle.rail_base.specs.declared.station.Station.{Station}
use Rattle.rail_base.specs.declared.station.Within.{Within}
use Rattle.rail_base.specs.declared.plan.Command.{Command}
use Rattle.rail_base.specs.Numbering.{entry}
use Rattle.rail_base.specs.Stations.{horizon, no_within, within_of}
use Rattle.rail_base.proofs.Members.{and_left, and_right, and_both}
use Rattle.rail_spec.specs.Track.{routes_of}
use Rattle.rail_spec.specs.Feasible.{IsFeasible, IsRunnable}
use Rattle.rail_spec.specs.Requirements.{both, is_done, keeps_order, keeps_within, meets, visited_at}
use Rattle.rail_laws.proofs.Deciding.{visit_within}
use Rattle.greatest_time.specs.Times.{within_in, with_max}
use Rattle.greatest_time.specs.Laws.{LaterTimeStands, OwnTimeChangesNothing, HasTime, MoreTimeIsFeasible, LessTimeIsInfeasible, MakesBoth, TakesAlike, IsFeasibleFrom, HorizonDecides}
use Rattle.greatest_time.proofs.Alike.{routes_alike}

-- ---- lists

pub entry_place : {X : Type 0} (other : X) (xs : List X) (w : ℕ) → 1 ≤ w → entry other xs w ≡ slice_index_or xs (w - 1) other
entry_place other xs zero h = absurd (omega arith)
entry_place other xs (suc i) h = let e : i ≡ suc i - 1 = omega arith in ap (λ j. slice_index_or xs j other) e

-- where all pass with one put in, it passes
put_in_passes : {X : Type 0} (test : X → Bool) (xs : List X) (i : ℕ) (x : X) → i < length xs → list_all test (slice_set xs i x) ≡ true → test x ≡ true
put_in_passes test [] i x h k = absurd (omega arith)
put_in_passes test (y ∷ ys) zero x h k = and_left (test x) (list_all test ys) k
put_in_passes test (y ∷ ys) (suc i) x h k = put_in_passes test ys i x (omega arith) (and_right (test y) (list_all test (slice_set ys i x)) k)

-- and all pass with any other that passes
pub others_pass : {X : Type 0} (test : X → Bool) (xs : List X) (i : ℕ) (x y : X) → list_all test (slice_set xs i x) ≡ true → test y ≡ true → list_all test (slice_set xs i y) ≡ true
others_pass test [] i x y k h = refl
others_pass test (z ∷ zs) zero x y k h = and_both (test y) (list_all test zs) h (and_right (test x) (list_all test zs) k)
others_pass test (z ∷ zs) (suc i) x y k h = and_both (test z) (list_all test (slice_set zs i y)) (and_left (test z) (list_all test (slice_set zs i x)) k) (others_pass test zs i x y (and_right (test z) (list_all test (slice_set zs i x)) k) h)

-- ---- ticks

-- both are there, and pass
pub record Both (test : ℕ → ℕ → Bool) (o p : Option ℕ) : Type 0 where
  pub from : ℕ
  pub to : ℕ
  pub from_is : o ≡ Some from
  pub to_is : p ≡ Some to
  pub passes : test from to ≡ true

both_gives : (test : ℕ → ℕ → Bool) (o p : Option ℕ) → both test o p ≡ true → Both test o p
both_gives test (Some a) (Some b) h = record { from = a; to = b; from_is = refl; to_is = refl; passes = h }
both_gives test (Some a) None h = cc
both_gives test None (Some b) h = cc
both_gives test None None h = cc

both_from : (test : ℕ → ℕ → Bool) (o p : Option ℕ) (a b : ℕ) → o ≡ Some a → p ≡ Some b → test a b ≡ true → both test o p ≡ true
both_from test o p a b e f h = ap (λ q. both test q p) e ∙ ap (both test (Some a)) f ∙ h

-- ---- one within of a design

module _ (d : Station) (w : ℕ) (first : 1 ≤ w) (there : w ≤ length d.withins) where
  -- the within with this greatest time
  abbrev with_time : ℕ → Within
  with_time ms = within_in (within_of d w) ms

  pub has : (ms : ℕ) → within_of (with_max d w ms) w ≡ with_time ms
  has ms = entry_place no_within (slice_set d.withins (w - 1) (with_time ms)) w first ∙ get_or-set_same d.withins (w - 1) (with_time ms) no_within (omega arith)

  pub has_time : HasTime d w
  has_time ms = ap (λ (v : Within). v.max_ms) (has ms)

  pub later_time : LaterTimeStands d w
  later_time ms later = λ i. record d { withins = (ap (λ v. slice_set (slice_set d.withins (w - 1) (with_time ms)) (w - 1) (within_in v later)) (has ms) ∙ set-set d.withins (w - 1) (with_time ms) (with_time later)) i }

  pub own_time : OwnTimeChangesNothing d w
  own_time = λ i. record d { withins = (ap (slice_set d.withins (w - 1)) (entry_place no_within d.withins w first) ∙ set-get_or d.withins (w - 1) no_within) i }

  -- ---- plans

  module _ (n : ℕ) (plan : List (List Command)) where
    runnable_here : (ms : ℕ) → IsRunnable (with_max d w ms) (routes_of (with_max d w ms)) n plan → IsRunnable d (routes_of d) n plan
    runnable_here ms r =
        let s = subst (λ rs. IsRunnable (with_max d w ms) rs n plan) (routes_alike d _) r in
        record { well_formed = record { named = s.well_formed.named; formed = s.well_formed.formed }; executable = s.executable }

    runnable_there : (ms : ℕ) → IsRunnable d (routes_of d) n plan → IsRunnable (with_max d w ms) (routes_of (with_max d w ms)) n plan
    runnable_there ms r = subst (λ rs. IsRunnable (with_max d w ms) rs n plan) (sym (routes_alike d _))
        (record { well_formed = record { named = r.well_formed.named; formed = r.well_formed.formed }; executable = r.executable })

    -- the plan keeps to this greatest time
    abbrev keeps : ℕ → Bool
    keeps ms = keeps_within d (routes_of d) plan (horizon d) (with_time ms)

    -- it meets the design with this greatest time
    abbrev met : ℕ → Bool
    met ms = meets (with_max d w ms) (routes_of d) plan

    met_keeps : (ms : ℕ) → met ms ≡ true → keeps ms ≡ true
    met_keeps ms h = put_in_passes (keeps_within d (routes_of d) plan (horizon d)) d.withins (w - 1) (with_time ms) (omega arith)
        (and_right (is_done d (routes_of d) plan (horizon d) && list_all (keeps_order d (routes_of d) plan (horizon d)) d.orders) _ h)

    met_moves : (ms other : ℕ) → met ms ≡ true → keeps other ≡ true → met other ≡ true
    met_moves ms other h k =
        let rest = is_done d (routes_of d) plan (horizon d) && list_all (keeps_order d (routes_of d) plan (horizon d)) d.orders in
        and_both rest (list_all (keeps_within d (routes_of d) plan (horizon d)) (slice_set d.withins (w - 1) (with_time other))) (and_left rest _ h)
        (others_pass (keeps_within d (routes_of d) plan (horizon d)) d.withins (w - 1) (with_time ms) (with_time other) (and_right rest _ h) k)

    pub feasible_met : (ms : ℕ) → IsFeasible (with_max d w ms) n plan → met ms ≡ true
    feasible_met ms f = subst (λ rs. meets (with_max d w ms) rs plan ≡ true) (routes_alike d _) f.met

    pub feasible_keeps : (ms : ℕ) → IsFeasible (with_max d w ms) n plan → keeps ms ≡ true
    feasible_keeps ms f = met_keeps ms (feasible_met ms f)

    pub feasible_moves : (ms other : ℕ) → IsFeasible (with_max d w ms) n plan → keeps other ≡ true → IsFeasible (with_max d w other) n plan
    feasible_moves ms other f k = record {
      runnable = runnable_there other (runnable_here ms f.runnable);
      met = subst (λ rs. meets (with_max d w other) rs plan ≡ true) (sym (routes_alike d _)) (met_moves ms other (feasible_met ms f) k);
    }

    -- from this tick to that one is in time
    abbrev is_in_time : ℕ → ℕ → ℕ → Bool
    is_in_time ms from to = nat_le (to * d.tick_ms) (from * d.tick_ms + ms)

    -- the ticks of the two visits
    abbrev from_tick : Option ℕ
    from_tick = visited_at d (routes_of d) plan (horizon d) (within_of d w).from_train (within_of d w).from_visit

    abbrev to_tick : Option ℕ
    to_tick = visited_at d (routes_of d) plan (horizon d) (within_of d w).to_train (within_of d w).to_visit

    pub makes : (ms : ℕ) → IsFeasible (with_max d w ms) n plan → Both (is_in_time ms) from_tick to_tick
    makes ms f = both_gives (is_in_time ms) from_tick to_tick (feasible_keeps ms f)

    pub feasible_at : (ms : ℕ) (from to other : ℕ) → IsFeasible (with_max d w ms) n plan → from_tick ≡ Some from → to_tick ≡ Some to → to * d.tick_ms ≤ from * d.tick_ms + other → IsFeasible (with_max d w other) n plan
    feasible_at ms from to other f a b h = feasible_moves ms other f (both_from (is_in_time other) from_tick to_tick from to a b (le-leb (to * d.tick_ms) (from * d.tick_ms + other) h))

    pub more_time : (ms more : ℕ) → ms ≤ more → IsFeasible (with_max d w ms) n plan → IsFeasible (with_max d w more) n plan
    more_time ms more h f =
        let b = makes ms f in
        let l = leb-true (b.to * d.tick_ms) (b.from * d.tick_ms + ms) b.passes in
        feasible_at ms b.from b.to more f b.from_is b.to_is (omega arith)

    pub exactly : (ms from to : ℕ) → IsFeasible (with_max d w ms) n plan → from_tick ≡ Some from → to_tick ≡ Some to → (other : ℕ) → IsFeasible (with_max d w other) n plan ↔ (to * d.tick_ms ≤ from * d.tick_ms + other)
    exactly ms from to f a b other = (
      λ g. (let m = makes other g in
          let l = leb-true (m.to * d.tick_ms) (m.from * d.tick_ms + other) m.passes in
          let same_from : Some m.from ≡ Some from = sym m.from_is ∙ a in
          let same_to : Some m.to ≡ Some to = sym m.to_is ∙ b in
          let e : m.from ≡ from = cc in
          let g : m.to ≡ to = cc in
          subst (λ x. x * d.tick_ms ≤ from * d.tick_ms + other) g (subst (λ x. m.to * d.tick_ms ≤ x * d.tick_ms + other) e l)),
      feasible_at ms from to other f a b,
    )

    -- no visit is later than the horizon
    pub by_horizon : (ms : ℕ) → IsFeasible (with_max d w ms) n plan → IsFeasible (with_max d w (horizon d * d.tick_ms)) n plan
    by_horizon ms f =
        let b = makes ms f in
        let v = visit_within d (routes_of d) plan (horizon d) (within_of d w).to_train (within_of d w).to_visit b.to b.to_is in
        let l : b.to * d.tick_ms ≤ horizon d * d.tick_ms = mul-le-mul v.1 (le_refl d.tick_ms) in
        feasible_at ms b.from b.to (horizon d * d.tick_ms) f b.from_is b.to_is (omega arith)

  -- ---- the laws

  pub more_is_feasible : MoreTimeIsFeasible d w
  more_is_feasible ms more n plan h f = more_time n plan ms more h f

  pub less_is_infeasible : LessTimeIsInfeasible d w
  less_is_infeasible ms less n h none plan f = none plan (more_time n plan less ms h f)

  pub makes_both : MakesBoth d w
  makes_both n plan f =
      let b = makes n plan (within_of d w).max_ms (subst (λ e. IsFeasible e n plan) (sym own_time) f) in
      let u = visit_within d (routes_of d) plan (horizon d) (within_of d w).from_train (within_of d w).from_visit b.from b.from_is in
      let v = visit_within d (routes_of d) plan (horizon d) (within_of d w).to_train (within_of d w).to_visit b.to b.to_is in
      (b.from, b.to, record { from_at = b.from_is; to_at = b.to_is }, u.1, v.1)

  pub feasible_from : IsFeasibleFrom d w
  feasible_from ms n plan from to f t other = exactly n plan ms from to f t.from_at t.to_at other

  pub horizon_decides : HorizonDecides d w
  horizon_decides n none ms plan f = none plan (by_horizon n plan ms f)

  pub takes_alike : TakesAlike d w
  takes_alike ms plan from to = (
    λ h. record { from_at = sym from_same ∙ h.from_at; to_at = sym to_same ∙ h.to_at },
    λ h. record { from_at = from_same ∙ h.from_at; to_at = to_same ∙ h.to_at },
  )
    where
      from_same : visited_at (with_max d w ms) (routes_of (with_max d w ms)) plan (horizon d) (within_of (with_max d w ms) w).from_train (within_of (with_max d w ms) w).from_visit ≡ visited_at d (routes_of d) plan (horizon d) (within_of d w).from_train (within_of d w).from_visit
      from_same = ap₂ (λ rs (v : Within). visited_at d rs plan (horizon d) v.from_train v.from_visit) (routes_alike d _) (has ms)

      to_same : visited_at (with_max d w ms) (routes_of (with_max d w ms)) plan (horizon d) (within_of (with_max d w ms) w).to_train (within_of (with_max d w ms) w).to_visit ≡ visited_at d (routes_of d) plan (horizon d) (within_of d w).to_train (within_of d w).to_visit
      to_same = ap₂ (λ rs (v : Within). visited_at d rs plan (horizon d) v.to_train v.to_visit) (routes_alike d _) (has ms)
