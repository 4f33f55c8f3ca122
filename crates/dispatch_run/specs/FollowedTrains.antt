-- What is worked out of a dispatch: for each train its journey, and the tick up to which it is followed.
use Rattle.std.specs.Prelude.{◌≡◌, ℕ, ◌-◌, ◌≤◌, ◌<◌, ◌^◌, Bool, true, List, All, map, take, length, nat_le}
use Rattle.std.specs.Prelude.{Option, None, Some}
use Rattle.rail_base.specs.declared.station.Station.{Station}
use Rattle.rail_base.specs.declared.station.TrainNo.{TrainNo}
use Rattle.rail_base.specs.declared.route.Route.{Route}
use Rattle.rail_base.specs.declared.state.TrainState.{TrainState}
use Rattle.rail_base.specs.Stations.{IsTrain, trains}
use Rattle.rail_spec.specs.Motion.{permitted}
use Rattle.rail_spec.specs.Dispatches.{Dispatch, state_of, pasts_at, state_at, granted_after, rates, stretches}
use Rattle.rail_spec.specs.Dispatches.{with_granted, authority}
use Rattle.rail_course.specs.Journeys.{IsJourney}
use Rattle.rail_course.specs.Tracks.{routes_at}
use Rattle.dispatch_run.specs.declared.traffic.FollowedTrain.{FollowedTrain}
use Rattle.dispatch_run.specs.declared.traffic.Traffic.{Traffic}

-- the tick concerns who is followed up to a tick, or for ever
abbrev pub follows : Option ℕ → ℕ → Bool
follows None k = true
follows (Some last) k = nat_le k last

module _ (d : Station) (routes : List Route) (dispatch : Dispatch) where
  -- the followed train is that of its train
  pub record IsFollowedTrain (f : FollowedTrain) : Type 0 where
    pub journey : IsJourney d routes dispatch f.journey
    pub following : (k : ℕ) → dispatch.concerns k f.journey.train_path.train ≡ follows f.until k

  -- these are the followed trains of all trains, in file order
  pub record AreFollowedTrains (fs : List FollowedTrain) : Type 0 where
    pub all : map (λ (f : FollowedTrain). f.journey.train_path.train) fs ≡ trains d
    pub each : All IsFollowedTrain fs

  -- full braking is permitted to a train by so many grants
  abbrev pub MayBrake : TrainNo → ℕ → TrainState → Type 0
  MayBrake t granted s =
      let end = authority d routes dispatch t (with_granted granted s) in
      let track = stretches d (take granted (routes_at routes (dispatch.path t))) in
      permitted (rates d t) track end s.x s.v (s.v - (rates d t).brake) ≡ true

  -- full braking is permitted by what is granted then, and the numbers are in range
  pub record CanMove (t : TrainNo) (granted : ℕ) (s : TrainState) : Type 0 where
    pub within : granted ≤ length (dispatch.path t)
    pub braking : 1 ≤ granted → MayBrake t granted s
    pub below_2_46 : s.x < 2 ^ 46
    pub slow : s.v ≤ 100000
    pub stood : s.stood ≤ 86400

  -- the state of a train at a tick
  abbrev pub train_state : ℕ → TrainNo → TrainState
  train_state k t = state_of (state_at d routes dispatch k) t

  -- in the run each train may go on at each tick, as it is and with what is granted next
  pub record MayGo : Type 0 where
    pub on : (k : ℕ) → k ≤ 86400 → (t : TrainNo) → IsTrain d t
        → CanMove t (train_state k t).granted (train_state k t)
    pub next : (k : ℕ) → k ≤ 86400 → (t : TrainNo) → IsTrain d t
        → CanMove t (granted_after d routes dispatch (pasts_at d routes dispatch k) t) (train_state k t)

-- the traffic is that of the dispatch
pub record IsTraffic (dispatch : Dispatch) (r : Traffic) : Type 0 where
  pub goes : MayGo r.interlocking.now.design.station r.interlocking.now.routes dispatch
  pub followed_trains :
      AreFollowedTrains r.interlocking.now.design.station r.interlocking.now.routes dispatch r.followed_trains.now
