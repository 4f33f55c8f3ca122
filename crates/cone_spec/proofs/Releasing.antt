-- When a command has released a section, seen from the routes before it and from what its train has been through.
use Rattle.std.proofs.Common.{◌≡◌, ℕ, zero, suc, ◌+◌, ◌≤◌, ◌<◌, Bool, true, false, if◌then◌else◌, nat_le, List, length, sum_by, refl, sym, ap, subst, ◌∙◌, arith, leb-true}
use Rattle.rail_base.specs.declared.station.Station.{Station}
use Rattle.rail_base.specs.declared.station.SectionNo.{SectionNo}
use Rattle.rail_base.specs.declared.station.TrainNo.{TrainNo}
use Rattle.rail_base.specs.declared.route.Route.{Route}
use Rattle.rail_base.specs.declared.plan.Command.{Command}
use Rattle.rail_base.specs.declared.state.Event.{Event}
use Rattle.rail_base.specs.declared.state.TrainState.{TrainState}
use Rattle.rail_base.specs.Events.{has_happened}
use Rattle.rail_base.specs.Stations.{train_length, whole_ticks}
use Rattle.rail_base.specs.Routes.{route_at, goes_over, release_offset, hold_ms, length_mm}
use Rattle.rail_base.proofs.Members.{and_left, and_right}
use Rattle.rail_spec.specs.Dispatches.{Dispatch, state_of, ago, past_of, now, has_come, routes_before, release_of_own, release_of_overlap, has_released, pasts_at, state_at}
use Rattle.rail_laws.proofs.Running.{Later, ago_falls, state_is_last}

module _ (d : Station) (routes : List Route) where
  -- how many ticks a section is held after the event
  abbrev pub ticks_of : Command → SectionNo → ℕ
  ticks_of e z = if goes_over (route_at routes e.route) z then 0 else whole_ticks d (hold_ms (route_at routes e.route) z)

  -- where the head is then, after the routes before
  abbrev pub place_of : Command → SectionNo → List Route → ℕ
  place_of e z before = if goes_over (route_at routes e.route) z
      then sum_by length_mm before + release_offset (route_at routes e.route) z + train_length d e.train
      else sum_by length_mm before + length_mm (route_at routes e.route)

  abbrev pub event_of : Command → SectionNo → List Route → Event
  event_of e z before = record { granted = suc (length before); place = place_of e z before }

  -- it is released after these routes, by a train that has been through this
  abbrev pub out : Command → SectionNo → List Route → List TrainState → Bool
  out e z before past = has_happened (ago (ticks_of e z) past) (event_of e z before)

  pub released_is : (p : Dispatch) (ps : List (List TrainState)) (e : Command) (z : SectionNo) → has_released d routes p ps e z ≡ out e z (routes_before d routes p e) (past_of ps e.train)
  released_is p ps e z = go (goes_over (route_at routes e.route) z)
    where
      go : (b : Bool) → has_come ps (if b then release_of_own d routes p e z else release_of_overlap d routes p e z)
          ≡ has_happened (ago (if b then 0 else whole_ticks d (hold_ms (route_at routes e.route) z)) (past_of ps e.train))
          (record { granted = suc (length (routes_before d routes p e)); place = if b then sum_by length_mm (routes_before d routes p e) + release_offset (route_at routes e.route) z + train_length d e.train else sum_by length_mm (routes_before d routes p e) + length_mm (route_at routes e.route) })
      go true = refl
      go false = refl

  -- what has been released is granted now
  module _ (p : Dispatch) where
    pub ago_low : (k n : ℕ) (t : TrainNo) → Later d routes p (ago n (past_of (pasts_at d routes p k) t)) (state_of (state_at d routes p k) t)
    ago_low k zero t = subst (λ s. Later d routes p (ago 0 (past_of (pasts_at d routes p k) t)) s) (sym (state_is_last d routes p (pasts_at d routes p k) t)) (record { granted = omega arith; x = omega arith })
    ago_low k (suc n) t = let a = ago_falls d routes p k n t in let b = ago_low k n t in record { granted = omega arith; x = omega arith }

    pub released_granted : (k : ℕ) (e : Command) (z : SectionNo) → has_released d routes p (pasts_at d routes p k) e z ≡ true → length (routes_before d routes p e) < (state_of (state_at d routes p k) e.train).granted
    released_granted k e z h =
        let out_of = sym (released_is p (pasts_at d routes p k) e z) ∙ h in
        let a = leb-true (suc (length (routes_before d routes p e))) (ago (ticks_of e z) (past_of (pasts_at d routes p k) e.train)).granted (and_left _ (nat_le (place_of e z (routes_before d routes p e)) (ago (ticks_of e z) (past_of (pasts_at d routes p k) e.train)).x) out_of) in
        let l = (ago_low k (ticks_of e z) e.train).granted in
        omega arith
