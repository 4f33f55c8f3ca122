-- What happens in the run of a plan.
use Rattle.std.specs.Prelude.{◌≡◌, ℕ, suc, List, Option, take}
use Rattle.rail_base.specs.declared.history.TrainHistory.{TrainHistory}
use Rattle.rail_base.specs.declared.history.Verdict.{Verdict}
use Rattle.rail_base.specs.declared.plan.Violation.{Violation}
use Rattle.rail_base.specs.declared.route.Route.{Route}
use Rattle.rail_base.specs.declared.state.TrainState.{TrainState}
use Rattle.rail_base.specs.declared.station.TrainNo.{TrainNo}
use Rattle.rail_spec.specs.Histories.{history_at, train_history, verdict_of}
use Rattle.rail_spec.specs.Plans.{path_routes}
use Rattle.rail_spec.specs.Requirements.{path_violation}
use Rattle.rail_spec.specs.Dispatches.{Dispatch, of_plan, granted_after, moved, pasts_at, state_at, stretches, state_of}
use Rattle.rail_course.specs.declared.journey.Journey.{Journey}
use Rattle.rail_course.specs.Journeys.{IsJourney}
use Rattle.rail_course.specs.declared.journeys.PlannedJourneys.{PlannedJourneys}
use Rattle.rail_course.specs.Runs.{CanMove, IsNow, IsReached}
use Rattle.rail_spec.specs.Motion.{SpanSeen}

module _ (r : PlannedJourneys) where
  -- the dispatch of its plan
  abbrev pub dispatch_in : Dispatch
  dispatch_in = of_plan r.interlocking.now.routes r.plan.now.steps

  -- the journey is that of its train
  abbrev pub IsJourneyIn : Journey → Type 0
  IsJourneyIn = let routes = r.interlocking.now.routes in
      IsJourney r.interlocking.now.design.station routes (of_plan routes r.plan.now.steps)

  -- these are the states and the histories at a tick up to 86,400
  abbrev pub IsReachedIn : ℕ → List TrainState → List TrainHistory → Type 0
  IsReachedIn = IsReached r.interlocking.now.design.station r.interlocking.now.routes r.plan.now.steps

  -- there is such a tick
  abbrev pub AreReachedIn : List TrainState → List TrainHistory → Type 0
  AreReachedIn states histories = (k : ℕ) × IsReachedIn k states histories

  -- these are the states at a tick from 1 on
  abbrev pub IsNowIn : ℕ → List TrainState → Type 0
  IsNowIn = IsNow r.interlocking.now.design.station r.interlocking.now.routes r.plan.now.steps

  -- full braking is permitted to a train by so many grants
  abbrev pub CanMoveIn : TrainNo → ℕ → TrainState → Type 0
  CanMoveIn = CanMove r.interlocking.now.design.station r.interlocking.now.routes r.plan.now.steps

  -- the first routes of a train's path, so many of them
  abbrev pub first_routes : TrainNo → ℕ → List Route
  first_routes t granted = take granted (path_routes r.interlocking.now.routes r.plan.now.steps t)

  -- a train after a tick, of which so many commands are granted then
  abbrev pub moved_in : TrainNo → TrainState → ℕ → TrainState
  moved_in = moved r.interlocking.now.design.station r.interlocking.now.routes dispatch_in

  -- how many commands of a train are granted after the tick that follows this one
  abbrev pub granted_in : ℕ → TrainNo → ℕ
  granted_in k = granted_after r.interlocking.now.design.station r.interlocking.now.routes dispatch_in
      (pasts_at r.interlocking.now.design.station r.interlocking.now.routes dispatch_in k)

  -- all trains at a tick
  abbrev pub states_in : ℕ → List TrainState
  states_in = state_at r.interlocking.now.design.station r.interlocking.now.routes dispatch_in

  -- what has happened to a train by a tick
  abbrev pub train_history_in : ℕ → TrainNo → TrainHistory
  train_history_in = train_history r.interlocking.now.design.station r.interlocking.now.routes r.plan.now.steps

  -- what has happened to each train by a tick
  abbrev pub history_in : ℕ → List TrainHistory
  history_in = history_at r.interlocking.now.design.station r.interlocking.now.routes r.plan.now.steps

  -- the first visit, by train, that no path makes
  abbrev pub path_violation_in : Option Violation
  path_violation_in = path_violation r.interlocking.now.design.station r.interlocking.now.routes r.plan.now.steps

  -- what so many ticks show of the plan
  abbrev pub verdict_in : ℕ → Verdict
  verdict_in = verdict_of r.interlocking.now.design.station r.interlocking.now.routes r.plan.now.steps

  -- the track of the first routes of a train's path, so many of them
  abbrev pub stretches_granted : TrainNo → ℕ → List SpanSeen
  stretches_granted t granted = stretches r.interlocking.now.design.station (first_routes t granted)

  -- the train after the tick that follows this one
  abbrev pub moved_next : ℕ → TrainNo → TrainState
  moved_next k t = moved_in t (state_of (states_in k) t) (granted_in k t)

  -- the train is in this state one tick after the states and the histories are these
  abbrev pub IsMovedIn : List TrainState → List TrainHistory → TrainNo → TrainState → Type 0
  IsMovedIn states histories t state = (k : ℕ) → IsReachedIn k states histories → state ≡ moved_next k t

  -- all trains are in these states one tick after that
  abbrev pub AreMovedIn : List TrainState → List TrainHistory → List TrainState → Type 0
  AreMovedIn states histories next = (k : ℕ) → IsReachedIn k states histories → next ≡ states_in (suc k)
