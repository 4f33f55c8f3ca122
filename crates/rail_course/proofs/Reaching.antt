-- In the run of a well-formed plan every train may move on.
use Rattle.std.proofs.Common.{◌≡◌, ℕ, zero, suc, ◌+◌, ◌-◌, ◌*◌, ◌≤◌, ◌⊎◌, true, List, length, take, slice_get, sym, subst, arith, mul-le-mul, le_refl}
use Rattle.rail_base.specs.declared.history.TrainHistory.{TrainHistory}
use Rattle.rail_base.specs.declared.station.Station.{Station}
use Rattle.rail_base.specs.declared.station.TrainNo.{TrainNo}
use Rattle.rail_base.specs.declared.route.Route.{Route}
use Rattle.rail_base.specs.declared.plan.Command.{Command}
use Rattle.rail_base.specs.declared.state.TrainState.{TrainState}
use Rattle.rail_base.specs.Admitted.{IsAdmitted}
use Rattle.rail_base.specs.Stations.{IsTrain}
use Rattle.rail_spec.specs.Track.{routes_of}
use Rattle.rail_spec.specs.Motion.{permitted}
use Rattle.rail_spec.specs.Plans.{path, path_routes}
use Rattle.rail_spec.specs.Feasible.{IsWellFormed}
use Rattle.rail_spec.specs.Dispatches.{state_of, rates, stretches, of_plan, with_granted, authority, granted_after, pasts_at, state_at}
use Rattle.rail_laws.proofs.Authority.{stood_ticks}
use Rattle.rail_laws.proofs.Running.{granted_after_most, granted_on_path}
use Rattle.rail_laws.proofs.UnderWay.{still, next_grants, travels}
use Rattle.rail_laws.proofs.Admits.{sound}
use Rattle.rail_laws.proofs.Small.{stays_small, IsSmall}
use Rattle.rail_course.specs.declared.waits.Wait.{Wait}
use Rattle.rail_course.specs.Ready.{GiveWhatIsReady}
use Rattle.rail_course.specs.Granting.{granted_on}
use Rattle.rail_course.specs.Runs.{CanMove, IsReached}
use Rattle.rail_course.proofs.Showing.{granted_shown, run_shows}

module _ (d : Station) (routes : List Route) (plan : List (List Command)) where
  -- what the waits say is granted
  pub granted_is : (k : ℕ) (s : List TrainState) (histories : List TrainHistory) → IsReached d routes plan k s histories → (t : TrainNo) → IsTrain d t → (ws : List (List Wait)) → GiveWhatIsReady d routes (of_plan routes plan) t ws
      → granted_on s histories (state_of s t).granted (slice_get ws (state_of s t).granted) ≡ granted_after d routes (of_plan routes plan) (pasts_at d routes (of_plan routes plan) k) t
  granted_is k s histories reached t is ws tell = granted_shown d routes (of_plan routes plan) k s histories (run_shows d routes plan k s histories reached.is reached.told) t is ws tell

  pub stays_within : (k : ℕ) (t : TrainNo) → (state_of (state_at d routes (of_plan routes plan) k) t).granted ≤ length (path plan t)
  stays_within k t = granted_on_path d routes (of_plan routes plan) k t

module _ (d : Station) (adm : IsAdmitted d) (plan : List (List Command)) (formed : IsWellFormed d (routes_of d) 256 plan) where
  can_move_at : (k : ℕ) → k ≤ 86400 → (t : TrainNo) → IsTrain d t → CanMove d (routes_of d) plan t (granted_after d (routes_of d) (of_plan (routes_of d) plan) (pasts_at d (routes_of d) (of_plan (routes_of d) plan) k) t) (state_of (state_at d (routes_of d) (of_plan (routes_of d) plan) k) t)
  can_move_at k early t named = record {
    within = granted_after_most d (routes_of d) (of_plan (routes_of d) plan) (pasts_at d (routes_of d) (of_plan (routes_of d) plan) k) t (stays_within d (routes_of d) plan k t);
    braking = go (granted_after d (routes_of d) (of_plan (routes_of d) plan) (pasts_at d (routes_of d) (of_plan (routes_of d) plan) k) t) (next_grants d (routes_of d) plan (pasts_at d (routes_of d) (of_plan (routes_of d) plan) k) t);
    below_2_46 = let x = small.x in let m : k * 100000 ≤ 86400 * 100000 = mul-le-mul early (le_refl 100000) in omega arith;
    slow = small.v;
    stood = let l = stood_ticks d (routes_of d) (of_plan (routes_of d) plan) k t in omega arith;
  }
    where
      old : TrainState
      old = state_of (state_at d (routes_of d) (of_plan (routes_of d) plan) k) t

      small : IsSmall d adm (routes_of d) plan k old
      small = stays_small d adm (routes_of d) plan k t

      go : (g : ℕ) → (g ≡ old.granted) ⊎ (g ≡ old.granted + 1) → 1 ≤ g → permitted (rates d t) (stretches d (take g (path_routes (routes_of d) plan t))) (authority d (routes_of d) (of_plan (routes_of d) plan) t (with_granted g old)) old.x old.v (old.v - (rates d t).brake) ≡ true
      go zero e l = absurd (omega arith)
      go (suc g) e l = still d (routes_of d) plan (sound d adm 256 plan formed.formed) t named old g (travels d (routes_of d) plan (sound d adm 256 plan formed.formed) k t) e

  pub can_move : (k : ℕ) (s : List TrainState) (histories : List TrainHistory) → IsReached d (routes_of d) plan k s histories → (t : TrainNo) → IsTrain d t → CanMove d (routes_of d) plan t (granted_after d (routes_of d) (of_plan (routes_of d) plan) (pasts_at d (routes_of d) (of_plan (routes_of d) plan) k) t) (state_of s t)
  can_move k s histories r t named = subst (λ s. CanMove d (routes_of d) plan t (granted_after d (routes_of d) (of_plan (routes_of d) plan) (pasts_at d (routes_of d) (of_plan (routes_of d) plan) k) t) (state_of s t)) (sym r.is) (can_move_at k r.at_most_86400 t named)

-- the same of routes that are those of the design
pub can_move_on : (d : Station) → IsAdmitted d → (routes : List Route) → routes ≡ routes_of d → (plan : List (List Command)) → IsWellFormed d routes 256 plan → (k : ℕ) (s : List TrainState) (histories : List TrainHistory) → IsReached d routes plan k s histories → (t : TrainNo) → IsTrain d t
    → CanMove d routes plan t (granted_after d routes (of_plan routes plan) (pasts_at d routes (of_plan routes plan) k) t) (state_of s t)
can_move_on d adm routes same plan =
    let P : List Route → Type 0 = λ rs. IsWellFormed d rs 256 plan → (k : ℕ) (s : List TrainState) (histories : List TrainHistory) → IsReached d rs plan k s histories → (t : TrainNo) → IsTrain d t → CanMove d rs plan t (granted_after d rs (of_plan rs plan) (pasts_at d rs (of_plan rs plan) k) t) (state_of s t) in
    subst P (sym same) (λ f k s histories r t n. can_move d adm plan f k s histories r t n)
