-- Waits that say which commands are ready.
use Rattle.std.specs.Prelude.{◌≡◌, ℕ, true, List, [], ◌∷◌, map, length, slice_get, Some}
use Rattle.std.specs.List.{list_all}
use Rattle.std.specs.Global.{Vec}
use Rattle.rail_base.specs.declared.history.TrainHistory.{TrainHistory}
use Rattle.rail_base.specs.declared.station.Station.{Station}
use Rattle.rail_base.specs.declared.station.SectionNo.{SectionNo}
use Rattle.rail_base.specs.declared.station.TrainNo.{TrainNo}
use Rattle.rail_base.specs.declared.route.Route.{Route}
use Rattle.rail_base.specs.declared.route.RouteNo.{RouteNo}
use Rattle.rail_base.specs.declared.plan.Command.{Command}
use Rattle.rail_base.specs.declared.state.TrainState.{TrainState}
use Rattle.rail_base.specs.Events.{has_happened}
use Rattle.rail_base.specs.Members.{In}
use Rattle.rail_base.specs.Numbering.{entry}
use Rattle.rail_base.specs.Routes.{route_at, goes_over}
use Rattle.rail_base.specs.Stations.{IsTrain}
use Rattle.rail_spec.specs.Dispatches.{Dispatch, state_of, pasts_at, state_at, release, has_released, is_ready}
use Rattle.rail_course.specs.declared.waits.Wait.{Wait}
use Rattle.rail_course.specs.Granting.{has_ended, is_seen_over}
use Rattle.rail_course.specs.Holds.{holds_of_train, is_hold_over}
use Rattle.rail_course.specs.Waits.{AreWaits, is_over, waits_of_train}

module _ (d : Station) (routes : List Route) (p : Dispatch) where
  -- the states show what is granted and which own sections are released at a tick of the run, wherever else trains are
  -- in them, and the histories which holds have ended
  pub record ShowTick (k : ℕ) (s : List TrainState) (histories : List TrainHistory) : Type 0 where
    pub granted : (t : TrainNo) → IsTrain d t → (state_of s t).granted ≡ (state_of (state_at d routes p k) t).granted
    pub released : (c : Command) (z : SectionNo) → goes_over (route_at routes c.route) z ≡ true
        → has_happened (state_of s c.train) (release d routes p c z).event
        ≡ has_released d routes p (pasts_at d routes p k) c z
    pub ended : (t : TrainNo) (n : ℕ) → has_ended histories t n
        ≡ is_hold_over (pasts_at d routes p k) (slice_get (holds_of_train d routes p t) n)

  -- what shows a tick shows whether the wait is over
  abbrev pub IsShown : Wait → Type 0
  IsShown w = (k : ℕ) (s : List TrainState) (histories : List TrainHistory) → ShowTick k s histories
      → is_seen_over s histories w ≡ is_over (pasts_at d routes p k) w

  -- there are waits for each command of the train's path, at each tick those of the next one are over exactly where it
  -- is ready, and what shows a tick shows which are over
  pub record GiveWhatIsReady (t : TrainNo) (waits : List (List Wait)) : Type 0 where
    pub waits_a_route : length waits ≡ length (p.path t)
    pub next : (k : ℕ) (r : RouteNo) (own : List Wait)
        → slice_get (p.path t) (state_of (state_at d routes p k) t).granted ≡ Some r
        → slice_get waits (state_of (state_at d routes p k) t).granted ≡ Some own
        → list_all (is_over (pasts_at d routes p k)) own
        ≡ is_ready d routes p (pasts_at d routes p k) (record { train = t; route = r })
    pub shown : (own : List Wait) (w : Wait) → In own waits → In w own → IsShown w

  -- these are the waits of the commands that give a train these routes
  abbrev pub AreWaitsOf : TrainNo → List RouteNo → List (List Wait) → Type 0
  AreWaitsOf t [] [] = Unit {0}
  AreWaitsOf t [] (own ∷ waits) = ⊥
  AreWaitsOf t (r ∷ rs) [] = ⊥
  AreWaitsOf t (r ∷ rs) (own ∷ waits) =
      AreWaits d routes p (record { train = t; route = r }) own × AreWaitsOf t rs waits

-- the waits of a train's commands, in the list of all trains' waits
abbrev pub own_waits : List (List (Vec Wait)) → TrainNo → List (List Wait)
own_waits waits t = map (λ v. v.items) (entry [] waits t.0)

-- the waits of each train, in file order, give what is ready
pub record AllGiveWhatIsReady (d : Station) (routes : List Route) (p : Dispatch)
    (waits : List (List (Vec Wait))) : Type 0 where
  pub waits_a_train : length waits ≡ length d.trains
  pub each : (t : TrainNo) → IsTrain d t → GiveWhatIsReady d routes p t (own_waits waits t)

-- the waits of each train give what is ready
abbrev pub WaitsGiveWhatIsReady : Station → List Route → Dispatch → Type 0
WaitsGiveWhatIsReady d routes p = (t : TrainNo) → GiveWhatIsReady d routes p t (waits_of_train d routes p t)
