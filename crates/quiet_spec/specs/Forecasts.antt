-- What a run knows of trains at a tick, of which it has looked at each at an earlier one.
use Rattle.std.specs.Prelude.{◌≡◌, ℕ, ◌-◌, ◌≤◌, ◌<◌, List, length}
use Rattle.rail_base.specs.declared.station.Station.{Station}
use Rattle.rail_base.specs.declared.station.TrainNo.{TrainNo}
use Rattle.rail_base.specs.declared.route.Route.{Route}
use Rattle.rail_base.specs.declared.state.TrainState.{TrainState}
use Rattle.rail_base.specs.Stations.{IsTrain}
use Rattle.rail_spec.specs.Dispatches.{Dispatch, state_of, state_at}
use Rattle.quiet_spec.specs.Quiet.{ComesNowhere, EndsNoHold, IsGrantedNothing, drift}

module _ (d : Station) (routes : List Route) (p : Dispatch) where
  -- since a tick, at which it was in state s, the train has been granted nothing, and before `until` it comes nowhere
  -- and no hold of it ends
  pub record IsSeen (k : ℕ) (t : TrainNo) (s : TrainState) (since until : ℕ) : Type 0 where
    pub past : since ≤ k
    pub then : s ≡ state_of (state_at d routes p since) t
    pub ahead : k < until
    pub begun : since ≡ 0 → until ≡ 1
    pub now : state_of (state_at d routes p k) t ≡ drift d routes p t since (k - since) s
    pub places : ComesNowhere d routes p t s (drift d routes p t since (until - 1 - since) s)
    pub holds : EndsNoHold d routes p since (until - 1) t

  -- so is each train, and it is granted nothing before it is looked at
  pub record AreSeen (k : ℕ) (states : List TrainState) (since until : TrainNo → ℕ) : Type 0 where
    pub state_a_train : length states ≡ length d.trains
    pub each : (t : TrainNo) → IsTrain d t → IsSeen k t (state_of states t) (since t) (until t)
    pub grants : (t : TrainNo) → IsTrain d t → IsGrantedNothing d routes p k (until t - 1) t
