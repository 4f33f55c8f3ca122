-- In the run of a cone each train may brake at any tick.
use Rattle.std.proofs.Common.{◌≡◌, ℕ, zero, suc, ◌+◌, ◌*◌, ◌/◌, ◌≤◌, ◌<◌, ◌⊎◌, inl, inr, Bool, true, false, if◌then◌else◌, List, [], ◌∷◌, map, take, length, refl, sym, subst, arith, mul-le-mul, le_refl, suc-mul, div-lt_iff_lt-mul, fold, max}
use Rattle.rail_base.specs.declared.station.Station.{Station}
use Rattle.rail_base.specs.declared.station.TrainNo.{TrainNo}
use Rattle.rail_base.specs.declared.route.Route.{Route}
use Rattle.rail_base.specs.declared.state.TrainState.{TrainState}
use Rattle.rail_base.specs.Admitted.{IsAdmitted}
use Rattle.rail_base.specs.Members.{In}
use Rattle.rail_base.specs.Routes.{route_at}
use Rattle.rail_base.specs.Stations.{IsTrain, horizon, vehicle_of}
use Rattle.rail_spec.specs.Motion.{permitted, reach}
use Rattle.rail_spec.specs.Dispatches.{state_of, pasts_at, state_at, rates, stretches, granted_after, moved, speed_in, with_granted, authority}
use Rattle.rail_laws.specs.Standing.{IsOrderly}
use Rattle.rail_laws.proofs.Authority.{next_grants, stood_ticks, still, travels}
use Rattle.cone_spec.specs.declared.Cone.{Cone}
use Rattle.cone_spec.specs.declared.ConeTrain.{ConeTrain}
use Rattle.cone_spec.specs.Cones.{free_path, of_cone}
use Rattle.cone_spec.specs.Validity.{in_design}
use Rattle.cone_spec.proofs.Naming.{of_design, proper}
use Rattle.rail_laws.proofs.Running.{Moves, Idles, after_tick, idle_at_first, granted_after_most, granted_on_path}
use Rattle.dispatch_run.specs.FollowedTrains.{CanMove, MayBrake}
use Rattle.cone_run.specs.Runs.{last_tick}
use Rattle.rail_laws.proofs.Small.{greatest_within}

top_speed : (d : Station) → IsAdmitted d → (t : TrainNo) → IsTrain d t → (rates d t).top ≤ 100000
top_speed d adm t h =
    let v = (adm.vehicle _ (adm.train t h).vehicle).speed.1 in
    let tick = adm.tick.1 in
    let product : (vehicle_of d t).speed_mm_s * d.tick_ms ≤ 100000 * 1000 = mul-le-mul v tick in
    let less : (vehicle_of d t).speed_mm_s * d.tick_ms / 1000 < 100001 = (div-lt_iff_lt-mul {k = 1000} {x = (vehicle_of d t).speed_mm_s * d.tick_ms} {y = 100001} (omega arith)).1 (omega arith) in
    omega arith

module _ (d : Station) (routes : List Route) (k : Cone) where
  -- ---- places and speeds stay small

  record IsSmall (n : ℕ) (s : TrainState) : Type 0 where
    pub x : s.x ≤ n * 100000
    pub v : s.v ≤ 100000

  moved_small : (t : TrainNo) (n : ℕ) (old : TrainState) (g : ℕ) → (rates d t).top ≤ 100000 → IsSmall n old → IsSmall (suc n) (moved d routes (of_cone k) t old g)
  moved_small t n old zero top h = let a = h.x in let s = suc-mul n 100000 in record { x = omega arith; v = h.v }
  moved_small t n old (suc g) top h =
      let given = take (suc g) (map (route_at routes) (free_path k t)) in
      let u : speed_in d routes (of_cone k) t (with_granted (suc g) old) ≤ reach (rates d t) old.v = greatest_within (permitted (rates d t) (stretches d given) (authority d routes (of_cone k) t (with_granted (suc g) old)) old.x old.v) (reach (rates d t) old.v) in
      let a = h.x in
      let s = suc-mul n 100000 in
      record { x = omega arith; v = omega arith }

  stays_small : IsAdmitted d → (n : ℕ) (t : TrainNo) → IsSmall n (state_of (state_at d routes (of_cone k) n) t)
  stays_small adm zero t = subst (IsSmall zero) (sym (idle_at_first d routes (of_cone k) t)) (record { x = omega arith; v = omega arith })
  stays_small adm (suc n) t = go (after_tick d routes (of_cone k) n t) (stays_small adm n t)
    where
      step : (b : Bool) → IsTrain d t → IsSmall n (state_of (state_at d routes (of_cone k) n) t)
          → IsSmall (suc n) (if b then moved d routes (of_cone k) t (state_of (state_at d routes (of_cone k) n) t) (granted_after d routes (of_cone k) (pasts_at d routes (of_cone k) n) t) else state_of (state_at d routes (of_cone k) n) t)
      step true there h = moved_small t n _ _ (top_speed d adm t there) h
      step false there h = let a = h.x in let s = suc-mul n 100000 in record { x = omega arith; v = h.v }

      go : Moves d routes (of_cone k) n t ⊎ Idles d routes (of_cone k) n t → IsSmall n (state_of (state_at d routes (of_cone k) n) t) → IsSmall (suc n) (state_of (state_at d routes (of_cone k) (suc n)) t)
      go (inl m) h = subst (IsSmall (suc n)) (sym m.by_rule) (step ((of_cone k).concerns (suc n) t) (m.first, m.last) h)
      go (inr i) h = subst (IsSmall (suc n)) (sym i.new) (record { x = omega arith; v = omega arith })

  -- ---- every train may move on

  may_move : IsAdmitted d → IsOrderly d routes (of_cone k) → (n : ℕ) → n ≤ 86400 → (t : TrainNo) → IsTrain d t → (g : ℕ) → g ≤ length (free_path k t)
      → (g ≡ (state_of (state_at d routes (of_cone k) n) t).granted) ⊎ (g ≡ (state_of (state_at d routes (of_cone k) n) t).granted + 1) → CanMove d routes (of_cone k) t g (state_of (state_at d routes (of_cone k) n) t)
  may_move adm orderly n early t there g within next = record {
    within = within;
    braking = go g next;
    below_2_46 = let x = small.x in let m : n * 100000 ≤ 86400 * 100000 = mul-le-mul early (le_refl 100000) in omega arith;
    slow = small.v;
    stood = let l = stood_ticks d routes (of_cone k) n t in omega arith;
  }
    where
      old : TrainState
      old = state_of (state_at d routes (of_cone k) n) t

      small : IsSmall n old
      small = stays_small adm n t

      go : (g : ℕ) → (g ≡ old.granted) ⊎ (g ≡ old.granted + 1) → 1 ≤ g → MayBrake d routes (of_cone k) t g old
      go zero e l = absurd (omega arith)
      go (suc g) e l = still d routes (of_cone k) orderly t there old g (travels d routes (of_cone k) orderly n t) e

  pub can_move_at : IsAdmitted d → IsOrderly d routes (of_cone k) → (n : ℕ) → n ≤ 86400 → (t : TrainNo) → IsTrain d t
      → CanMove d routes (of_cone k) t (granted_after d routes (of_cone k) (pasts_at d routes (of_cone k) n) t) (state_of (state_at d routes (of_cone k) n) t)
  can_move_at adm orderly n early t there =
      let ps = pasts_at d routes (of_cone k) n in
      may_move adm orderly n early t there (granted_after d routes (of_cone k) ps t) (granted_after_most d routes (of_cone k) ps t (granted_on_path d routes (of_cone k) n t)) (next_grants d routes (of_cone k) ps t)

  pub can_go_at : IsAdmitted d → IsOrderly d routes (of_cone k) → (n : ℕ) → n ≤ 86400 → (t : TrainNo) → IsTrain d t
      → CanMove d routes (of_cone k) t (state_of (state_at d routes (of_cone k) n) t).granted (state_of (state_at d routes (of_cone k) n) t)
  can_go_at adm orderly n early t there = may_move adm orderly n early t there (state_of (state_at d routes (of_cone k) n) t).granted (granted_on_path d routes (of_cone k) n t) (inl refl)

-- the horizons are within that of the design
fold_within : (f m : ℕ) (cs : List ConeTrain) → f ≤ m → ((c : ConeTrain) → In c cs → c.horizon ≤ m) → fold max f (map (λ (c : ConeTrain). c.horizon) cs) ≤ m
fold_within f m [] low h = low
fold_within f m (c ∷ cs) low h = let a = h c (inl refl) in fold_within (max f c.horizon) m cs (omega arith) (λ x i. h x (inr i))

pub last_within : (d : Station) (routes : List Route) (k : Cone) → in_design d routes k ≡ true → last_tick k ≤ horizon d
last_within d routes k known = fold_within 0 (horizon d) k.trains (omega arith) (λ c m. (proper d routes k (of_design d routes k known) c m).horizon)
