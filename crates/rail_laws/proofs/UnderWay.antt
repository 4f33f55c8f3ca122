-- In the run of a plan full braking is permitted to every train with a granted command, and so it stays within its authority.
use Rattle.std.proofs.Common.{◌≡◌, ℕ, suc, ◌+◌, ◌-◌, ◌≤◌, ◌⊎◌, true, List, take}
use Rattle.rail_base.specs.declared.station.Station.{Station}
use Rattle.rail_base.specs.declared.station.TrainNo.{TrainNo}
use Rattle.rail_base.specs.declared.route.Route.{Route}
use Rattle.rail_base.specs.declared.plan.Command.{Command}
use Rattle.rail_base.specs.declared.state.TrainState.{TrainState}
use Rattle.rail_base.specs.Stations.{IsTrain}
use Rattle.rail_spec.specs.Plans.{path_routes}
use Rattle.rail_spec.specs.Motion.{permitted, may_stop}
use Rattle.rail_spec.specs.Dispatches.{state_of, now, rates, stretches, of_plan, track_end, with_granted, authority, granted_after, state_at}
use Rattle.rail_laws.specs.Standing.{IsOrderly}
use Rattle.rail_laws.proofs.Authority as run
pub use Rattle.rail_laws.proofs.Ahead.{edge_ends-append, further, authority_farther, authority_some}

module _ (d : Station) (routes : List Route) (plan : List (List Command)) where
  -- what is taken for granted: brakes that slow, routes as long as their edges with their nodes in order, and no route behind an exit
  abbrev pub IsSound : Type 0
  IsSound = IsOrderly d routes (of_plan routes plan)

  abbrev pub given : TrainNo → ℕ → List Route
  given t g = take g (path_routes routes plan t)

  abbrev pub Travels : TrainNo → TrainState → Type 0
  Travels t s = run.Travels d routes (of_plan routes plan) t s

  pub next_grants : (ps : List (List TrainState)) (t : TrainNo) → (granted_after d routes (of_plan routes plan) ps t ≡ (state_of (now ps) t).granted) ⊎ (granted_after d routes (of_plan routes plan) ps t ≡ (state_of (now ps) t).granted + 1)
  next_grants = run.next_grants d routes (of_plan routes plan)

  -- full braking is permitted by what is granted now, too
  pub still : (sound : IsSound) (t : TrainNo) (named : IsTrain d t) (old : TrainState) (n : ℕ) → Travels t old → (suc n ≡ old.granted) ⊎ (suc n ≡ old.granted + 1)
      → permitted (rates d t) (stretches d (given t (suc n))) (authority d routes (of_plan routes plan) t (with_granted (suc n) old)) old.x old.v (old.v - (rates d t).brake) ≡ true
  still sound = run.still d routes (of_plan routes plan) sound

  -- so it is with every train at every tick
  pub travels : IsSound → (k : ℕ) (t : TrainNo) → Travels t (state_of (state_at d routes (of_plan routes plan) k) t)
  travels sound = run.travels d routes (of_plan routes plan) sound

  -- the head never passes the end of authority
  pub within_authority : IsSound → (k : ℕ) (t : TrainNo) → 1 ≤ (state_of (state_at d routes (of_plan routes plan) k) t).granted
      → let s = state_of (state_at d routes (of_plan routes plan) k) t in may_stop (authority d routes (of_plan routes plan) t s) s.x ≡ true
  within_authority sound = run.within_authority d routes (of_plan routes plan) sound

  -- nor that of the routes that are granted
  pub within_track : IsSound → (k : ℕ) (t : TrainNo) → 1 ≤ (state_of (state_at d routes (of_plan routes plan) k) t).granted
      → may_stop (track_end (given t (state_of (state_at d routes (of_plan routes plan) k) t).granted)) (state_of (state_at d routes (of_plan routes plan) k) t).x ≡ true
  within_track sound = run.within_track d routes (of_plan routes plan) sound
