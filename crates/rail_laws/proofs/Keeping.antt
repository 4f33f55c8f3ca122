-- In every run of a well-formed plan trains keep to their authority and to the limits of the points that they cover.
use Rattle.std.proofs.Common.{◌≡◌, ℕ, zero, suc, ◌+◌, ◌-◌, ◌≤◌, ◌⊎◌, true, List, take, Option, arith}
use Rattle.rail_base.specs.declared.station.Station.{Station}
use Rattle.rail_base.specs.declared.station.TrainNo.{TrainNo}
use Rattle.rail_base.specs.declared.route.Route.{Route}
use Rattle.rail_base.specs.declared.plan.Command.{Command}
use Rattle.rail_base.specs.declared.state.TrainState.{TrainState}
use Rattle.rail_spec.specs.Track.{routes_of}
use Rattle.rail_spec.specs.Plans.{path_routes, is_well_formed}
use Rattle.rail_spec.specs.Motion.{MotorSeen, SpanSeen, KeepsLimits, may_stop, permitted, next_speed}
use Rattle.rail_spec.specs.Dispatches.{state_of, rates, binding_length, stretches, of_plan, granted_after, moved, with_granted, authority}
use Rattle.rail_spec.specs.Dispatches.{pasts_at, state_at}
use Rattle.rail_base.specs.Admitted.{IsAdmitted}
use Rattle.rail_base.specs.Stations.{IsTrain}
use Rattle.rail_laws.proofs.MotionLaws.{can_brake_keeps, permitted_reach, permitted_brakes, next_speed_permitted}
use Rattle.rail_laws.proofs.Exclusion.{by_tick}
use Rattle.rail_laws.proofs.UnderWay.{Travels, still, next_grants, travels, within_authority}
use Rattle.rail_laws.proofs.Admits.{sound}

-- a permitted move keeps the limits
move_keeps : (m : MotorSeen) (ss : List SpanSeen) (end : Option ℕ) (x v u : ℕ) → permitted m ss end x v u ≡ true → KeepsLimits m.top ss (x - m.tail) (x + u) u
move_keeps m ss end x v u h =
    let r = permitted_reach m ss end x v u h in
    can_brake_keeps u m.brake m.tail m.top ss end x u (omega arith) (permitted_brakes m ss end x v u h)

module _ (d : Station) (adm : IsAdmitted d) (n : ℕ) (plan : List (List Command)) (formed : is_well_formed d (routes_of d) n plan ≡ true) where
  abbrev given : TrainNo → ℕ → List Route
  given t g = take g (path_routes (routes_of d) plan t)

  pub keeps_authority : (k : ℕ) (t : TrainNo) → 1 ≤ (state_of (state_at d (routes_of d) (of_plan (routes_of d) plan) k) t).granted
      → let s = state_of (state_at d (routes_of d) (of_plan (routes_of d) plan) k) t in may_stop (authority d (routes_of d) (of_plan (routes_of d) plan) t s) s.x ≡ true
  keeps_authority = within_authority d (routes_of d) plan (sound d adm n plan formed)

  abbrev Keeps : TrainNo → TrainState → TrainState → Type 0
  Keeps t old new = 1 ≤ new.granted → KeepsLimits (rates d t).top (stretches d (given t new.granted)) (old.x - binding_length d t) new.x new.v

  pub keeps_all_limits : (k : ℕ) (t : TrainNo) → Keeps t (state_of (state_at d (routes_of d) (of_plan (routes_of d) plan) k) t) (state_of (state_at d (routes_of d) (of_plan (routes_of d) plan) (suc k)) t)
  keeps_all_limits k t = by_tick d (routes_of d) plan (Keeps t) k t (λ none. absurd (omega arith)) (λ low high. one (low, high) (state_of (state_at d (routes_of d) (of_plan (routes_of d) plan) k) t) (granted_after d (routes_of d) (of_plan (routes_of d) plan) (pasts_at d (routes_of d) (of_plan (routes_of d) plan) k) t) (travels d (routes_of d) plan (sound d adm n plan formed) k t) (next_grants d (routes_of d) plan (pasts_at d (routes_of d) (of_plan (routes_of d) plan) k) t))
    where
      one : IsTrain d t → (old : TrainState) (g : ℕ) → Travels d (routes_of d) plan t old → (g ≡ old.granted) ⊎ (g ≡ old.granted + 1) → Keeps t old (moved d (routes_of d) (of_plan (routes_of d) plan) t old g)
      one named old zero h e some = λ p l m. absurd (omega arith)
      one named old (suc g) h e some =
          let now = still d (routes_of d) plan (sound d adm n plan formed) t named old g h e in
          let end = authority d (routes_of d) (of_plan (routes_of d) plan) t (with_granted (suc g) old) in
          move_keeps (rates d t) (stretches d (given t (suc g))) end old.x old.v (next_speed (rates d t) (stretches d (given t (suc g))) end old.x old.v)
          (next_speed_permitted (rates d t) (stretches d (given t (suc g))) end old.x old.v _ now)
