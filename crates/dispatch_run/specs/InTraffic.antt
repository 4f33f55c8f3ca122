-- The run of a dispatch over its traffic, and what is known of the trains that are followed in it.
use Rattle.std.specs.Prelude.{ℕ, List, map, take, Option}
use Rattle.std.specs.Option.{option_or}
use Rattle.rail_base.specs.declared.history.TrainHistory.{TrainHistory}
use Rattle.rail_base.specs.declared.route.Route.{Route}
use Rattle.rail_base.specs.declared.state.TrainState.{TrainState}
use Rattle.rail_base.specs.declared.station.TrainNo.{TrainNo}
use Rattle.rail_base.specs.Stations.{trains}
use Rattle.rail_spec.specs.Dispatches.{Dispatch, moved, state_at, state_of, stretches, track_end}
use Rattle.rail_spec.specs.Motion.{SpanSeen}
use Rattle.rail_course.specs.declared.train_path.TrainPath.{TrainPath}
use Rattle.rail_course.specs.TrainPaths.{IsTrainPath}
use Rattle.rail_course.specs.Tracks.{routes_at}
use Rattle.quiet_spec.specs.Forecasts.{IsSeen}
use Rattle.quiet_spec.specs.Histories.{history_at, train_history}
use Rattle.quiet_spec.specs.Quiet.{ComesNowhere, EndsNoHold, drift}
use Rattle.dispatch_run.specs.declared.looks.Look.{Look}
use Rattle.dispatch_run.specs.declared.run.Progress.{Progress}
use Rattle.dispatch_run.specs.declared.traffic.FollowedTrain.{FollowedTrain}
use Rattle.dispatch_run.specs.declared.traffic.Traffic.{Traffic}
use Rattle.dispatch_run.specs.Drifts.{going_with}
use Rattle.dispatch_run.specs.FollowedTrains.{CanMove, IsFollowedTrain}
use Rattle.dispatch_run.specs.Looks.{IsKnown}
use Rattle.dispatch_run.specs.Progress.{IsProgress}
use Rattle.dispatch_run.specs.Turns.{AreLookedAt, AreToBeMarked, IsLook, IsLookedAt, IsToBeMarked, IsTurn, looked_state}

-- the train that a followed train is of
abbrev pub followed_train_no : FollowedTrain → TrainNo
followed_train_no f = f.journey.train_path.train

module _ (r : Traffic) where
  -- the train path is that of its train
  abbrev pub IsTrainPathIn : TrainPath → Type 0
  IsTrainPathIn c = IsTrainPath r.interlocking.now.design.station r.interlocking.now.routes c.path.items c

  -- the first routes of a train path, so many of them
  abbrev pub first_routes : TrainPath → ℕ → List Route
  first_routes c granted = take granted (routes_at r.interlocking.now.routes c.path.items)

  -- their track
  abbrev pub track_given : TrainPath → ℕ → List SpanSeen
  track_given c granted = stretches r.interlocking.now.design.station (first_routes c granted)

  -- how far a train may go: to the place at which it has still to stand, or else as far as they let it
  abbrev pub authority_given : TrainPath → ℕ → Option ℕ → Option ℕ
  authority_given c granted place = option_or place (track_end (first_routes c granted))

module _ (r : Traffic) (dispatch : Dispatch) where
  -- the followed train is that of its train
  abbrev pub IsFollowedTrainIn : FollowedTrain → Type 0
  IsFollowedTrainIn = IsFollowedTrain r.interlocking.now.design.station r.interlocking.now.routes dispatch

  -- full braking is permitted by so many grants, and the numbers are in range
  abbrev pub CanMoveIn : FollowedTrain → ℕ → TrainState → Type 0
  CanMoveIn f = CanMove r.interlocking.now.design.station r.interlocking.now.routes dispatch (followed_train_no f)

  -- ---- the run

  -- all trains at a tick
  abbrev pub states_in : ℕ → List TrainState
  states_in = state_at r.interlocking.now.design.station r.interlocking.now.routes dispatch

  -- a train at a tick
  abbrev pub state_in : ℕ → FollowedTrain → TrainState
  state_in tick f = state_of (states_in tick) (followed_train_no f)

  -- a train after a tick in which it moves, and so many of its commands are granted
  abbrev pub moved_in : FollowedTrain → TrainState → ℕ → TrainState
  moved_in f = moved r.interlocking.now.design.station r.interlocking.now.routes dispatch (followed_train_no f)

  -- the same after some ticks
  abbrev pub going_in : FollowedTrain → ℕ → ℕ → TrainState → TrainState
  going_in f = going_with r.interlocking.now.design.station r.interlocking.now.routes dispatch (followed_train_no f)

  -- a train after some ticks from a tick on, in which it is granted nothing
  abbrev pub drift_in : FollowedTrain → ℕ → ℕ → TrainState → TrainState
  drift_in f = drift r.interlocking.now.design.station r.interlocking.now.routes dispatch (followed_train_no f)

  -- from one state to the other the train comes to no node, to no place at which it releases a section, to none from
  -- which on it holds one and to no end of a stand
  abbrev pub ComesNowhereIn : FollowedTrain → TrainState → TrainState → Type 0
  ComesNowhereIn f =
      ComesNowhere r.interlocking.now.design.station r.interlocking.now.routes dispatch (followed_train_no f)

  -- so it is where the train moves or stands for some ticks
  abbrev pub IsClearFor : FollowedTrain → TrainState → ℕ → Type 0
  IsClearFor f s ticks = ComesNowhereIn f s (going_in f s.granted ticks s)

  -- and where it goes on for some ticks from a tick on, in which it is granted nothing
  abbrev pub IsIdleFor : FollowedTrain → ℕ → TrainState → ℕ → Type 0
  IsIdleFor f tick s ticks = ComesNowhereIn f s (drift_in f tick ticks s)

  -- in the ticks after one and up to another no hold of the train ends that had begun
  abbrev pub EndsNoHoldIn : FollowedTrain → ℕ → ℕ → Type 0
  EndsNoHoldIn f tick last =
      EndsNoHold r.interlocking.now.design.station r.interlocking.now.routes dispatch tick last (followed_train_no f)

  -- what has happened to a train by a tick
  abbrev pub train_history_in : ℕ → FollowedTrain → TrainHistory
  train_history_in tick f =
      train_history r.interlocking.now.design.station r.interlocking.now.routes dispatch tick (followed_train_no f)

  -- what has happened to each train by a tick
  abbrev pub history_in : ℕ → List TrainHistory
  history_in = history_at r.interlocking.now.design.station r.interlocking.now.routes dispatch

  -- what is known at its tick, and what has happened by then
  abbrev pub IsProgressIn : Progress → Type 0
  IsProgressIn = IsProgress r.interlocking.now.design.station r.interlocking.now.routes dispatch

  -- ---- looks at trains

  -- what is known of all trains at a tick
  abbrev pub IsKnownIn : ℕ → List TrainState → List Look → Type 0
  IsKnownIn = IsKnown r.interlocking.now.design.station r.interlocking.now.routes dispatch

  -- the tick is the next after one at which all is known
  abbrev pub IsTurnIn : ℕ → List TrainState → List TrainHistory → List Look → Type 0
  IsTurnIn = IsTurn r.interlocking.now.design.station r.interlocking.now.routes dispatch

  -- what is known of a train at a tick, which since one tick is granted nothing, and before another comes nowhere and no
  -- hold of it ends
  abbrev pub IsSeenIn : ℕ → FollowedTrain → TrainState → ℕ → ℕ → Type 0
  IsSeenIn tick f =
      IsSeen r.interlocking.now.design.station r.interlocking.now.routes dispatch tick (followed_train_no f)

  -- a train that is to be looked at then has its state of the tick, and another the one that it had
  abbrev pub looked_state_in : ℕ → List TrainState → List Look → FollowedTrain → TrainState
  looked_state_in tick states looks f =
      looked_state r.interlocking.now.design.station r.interlocking.now.routes dispatch tick states looks
      (followed_train_no f)

  -- so it is with all trains
  abbrev pub looked_states_in : ℕ → List TrainState → List Look → List TrainState
  looked_states_in tick states looks =
      map (looked_state r.interlocking.now.design.station r.interlocking.now.routes dispatch tick states looks)
      (trains r.interlocking.now.design.station)

  -- a train after the tick
  abbrev pub IsLookedAtIn : ℕ → FollowedTrain → TrainState → Look → Type 0
  IsLookedAtIn tick f =
      IsLookedAt r.interlocking.now.design.station r.interlocking.now.routes dispatch tick (followed_train_no f)

  -- all trains after the tick
  abbrev pub AreLookedAtIn : ℕ → List TrainState → List Look → Type 0
  AreLookedAtIn = AreLookedAt r.interlocking.now.design.station r.interlocking.now.routes dispatch

  -- what is known of the history of a train, before it is marked
  abbrev pub IsToBeMarkedIn : ℕ → FollowedTrain → TrainState → Look → TrainHistory → Type 0
  IsToBeMarkedIn tick f =
      IsToBeMarked r.interlocking.now.design.station r.interlocking.now.routes dispatch tick (followed_train_no f)

  -- of the histories of all trains
  abbrev pub AreToBeMarkedIn : ℕ → List TrainState → List Look → List TrainHistory → Type 0
  AreToBeMarkedIn = AreToBeMarked r.interlocking.now.design.station r.interlocking.now.routes dispatch

  -- the next look at a train is soon enough
  abbrev pub IsLookIn : ℕ → List TrainState → FollowedTrain → Look → Type 0
  IsLookIn tick states f =
      IsLook r.interlocking.now.design.station r.interlocking.now.routes dispatch tick states (followed_train_no f)
