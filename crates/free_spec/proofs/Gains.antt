-- What a train can have gained so many ticks after it was at a place with a speed.
use Rattle.std.proofs.Common.{◌≡◌, ℕ, zero, suc, ◌+◌, ◌*◌, ◌≤◌, ◌⊎◌, inl, inr, Bool, true, false, if◌then◌else◌, List, take, refl, sym, ap, subst, arith}
use Rattle.rail_base.specs.declared.station.Station.{Station}
use Rattle.rail_base.specs.declared.station.TrainNo.{TrainNo}
use Rattle.rail_base.specs.declared.plan.Command.{Command}
use Rattle.rail_base.specs.declared.state.TrainState.{TrainState}
use Rattle.rail_base.specs.Admitted.{IsAdmitted}
use Rattle.rail_base.specs.Numbering.{greatest}
use Rattle.rail_spec.specs.Track.{routes_of}
use Rattle.rail_spec.specs.Plans.{path_routes, is_well_formed}
use Rattle.rail_spec.specs.Motion.{permitted, next_speed, reach}
use Rattle.rail_spec.specs.Dispatches.{state_of, rates, stretches, of_plan, granted_after, moved, with_granted, authority}
use Rattle.rail_spec.specs.Dispatches.{pasts_at, state_at}
use Rattle.rail_laws.proofs.Exclusion.{by_tick}

greatest_within : (test : ℕ → Bool) (n : ℕ) → greatest test n ≤ n
greatest_within test zero = omega arith
greatest_within test (suc n) = go (test (suc n)) (greatest_within test n)
  where
    go : (b : Bool) → greatest test n ≤ n → (if b then suc n else greatest test n) ≤ suc n
    go true h = omega arith
    go false h = omega arith

-- ---- numbers

ahead : (a c v0 x0 x v w : ℕ) → v ≤ v0 + a * c → 2 * x ≤ 2 * x0 + 2 * (c * v0) + a * c * (c + 1) → w ≤ v + a → 2 * (x + w) ≤ 2 * x0 + 2 * ((c + 1) * v0) + a * (c + 1) * (c + 1 + 1)
ahead a c v0 x0 x v w hv hx hw =
    let e : a * (c + 1) * (c + 1 + 1) ≡ a * c * (c + 1) + 2 * (a * c) + 2 * a = omega arith in
    let f : (c + 1) * v0 ≡ c * v0 + v0 = omega arith in
    omega arith

faster : (a c v0 v w : ℕ) → v ≤ v0 + a * c → w ≤ v + a → w ≤ v0 + a * (c + 1)
faster a c v0 v w hv hw = let e : a * (c + 1) ≡ a * c + a = omega arith in omega arith

module _ (d : Station) (adm : IsAdmitted d) (n : ℕ) (plan : List (List Command)) (formed : is_well_formed d (routes_of d) n plan ≡ true) where
  abbrev at : ℕ → TrainNo → TrainState
  at k t = state_of (state_at d (routes_of d) (of_plan (routes_of d) plan) k) t

  -- a tick moves a head by the new speed, which is greater by the acceleration at most, or leaves it as it is
  abbrev Gains : ℕ → TrainState → TrainState → Type 0
  Gains a old new = ((new.x ≡ old.x + new.v) × (new.v ≤ old.v + a)) ⊎ ((new.x ≡ old.x) × (new.v ≡ old.v))

  gains : (k : ℕ) (t : TrainNo) → Gains (rates d t).accel (at k t) (at (suc k) t)
  gains k t = by_tick d (routes_of d) plan (Gains (rates d t).accel) k t (inr (refl, refl)) (λ low high. one (at k t) (granted_after d (routes_of d) (of_plan (routes_of d) plan) (pasts_at d (routes_of d) (of_plan (routes_of d) plan) k) t))
    where
      one : (old : TrainState) (g : ℕ) → Gains (rates d t).accel old (moved d (routes_of d) (of_plan (routes_of d) plan) t old g)
      one old zero = inr (refl, refl)
      one old (suc g) =
          let given = take (suc g) (path_routes (routes_of d) plan t) in
          let end = authority d (routes_of d) (of_plan (routes_of d) plan) t (with_granted (suc g) old) in
          let u : next_speed (rates d t) (stretches d given) end old.x old.v ≤ reach (rates d t) old.v = greatest_within (permitted (rates d t) (stretches d given) end old.x old.v) (reach (rates d t) old.v) in
          inl (refl, omega arith)

  -- ---- so many ticks after one at a place, with a speed

  pub record Gained (a v0 x0 c : ℕ) (s : TrainState) : Type 0 where
    pub v : s.v ≤ v0 + a * c
    pub x : 2 * s.x ≤ 2 * x0 + 2 * (c * v0) + a * c * (c + 1)

  pub gained_by : (t : TrainNo) (k v0 x0 : ℕ) → (at k t).x ≤ x0 → (at k t).v ≤ v0 → (c : ℕ) → Gained (rates d t).accel v0 x0 c (at (k + c) t)
  gained_by t k v0 x0 hx hv zero =
      let f : k + 0 ≡ k = omega arith in
      subst (λ i. Gained (rates d t).accel v0 x0 0 (at i t)) (sym f) (record { v = omega arith; x = omega arith })
  gained_by t k v0 x0 hx hv (suc c) = subst (λ i. Gained (rates d t).accel v0 x0 (suc c) (at i t)) (sym f) (go (gains (k + c) t) (gained_by t k v0 x0 hx hv c))
    where
      f : k + suc c ≡ suc (k + c)
      f = omega arith

      go : Gains (rates d t).accel (at (k + c) t) (at (suc (k + c)) t) → Gained (rates d t).accel v0 x0 c (at (k + c) t) → Gained (rates d t).accel v0 x0 (suc c) (at (suc (k + c)) t)
      go (inl g) r =
          let more = ahead (rates d t).accel c v0 x0 (at (k + c) t).x (at (k + c) t).v (at (suc (k + c)) t).v r.v r.x g.1 in
          let fast = faster (rates d t).accel c v0 (at (k + c) t).v (at (suc (k + c)) t).v r.v g.1 in
          let move = g.0 in
          let one : c + 1 ≡ suc c = omega arith in
          let e = ap (λ m. (rates d t).accel * m) one in
          let h = ap (λ m. (rates d t).accel * m * (m + 1)) one in
          let i = ap (λ m. m * v0) one in
          record { v = omega arith; x = omega arith }
      go (inr g) r =
          let more = ahead (rates d t).accel c v0 x0 (at (k + c) t).x (at (k + c) t).v 0 r.v r.x (omega arith) in
          let fast = faster (rates d t).accel c v0 (at (k + c) t).v (at (k + c) t).v r.v (omega arith) in
          let move = g.0 in
          let speed = g.1 in
          let one : c + 1 ≡ suc c = omega arith in
          let e = ap (λ m. (rates d t).accel * m) one in
          let h = ap (λ m. (rates d t).accel * m * (m + 1)) one in
          let i = ap (λ m. m * v0) one in
          record { v = omega arith; x = omega arith }
