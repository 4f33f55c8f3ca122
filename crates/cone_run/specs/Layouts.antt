-- A cone that speaks of the design: what its run is, and what is asked of it.
use Rattle.std.specs.Prelude.{ℕ, ◌+◌, ◌-◌, Bool, ◌&&◌, List, nat_le, Option, is_none, ◌≡◌}
use Rattle.std.specs.List.{list_all}
use Rattle.rail_base.specs.declared.station.Station.{Station}
use Rattle.rail_base.specs.declared.station.Order.{Order}
use Rattle.rail_base.specs.declared.station.TrainNo.{TrainNo}
use Rattle.rail_base.specs.declared.station.Within.{Within}
use Rattle.rail_base.specs.declared.route.Route.{Route}
use Rattle.rail_base.specs.declared.route.RouteNo.{RouteNo}
use Rattle.rail_base.specs.declared.plan.Command.{Command}
use Rattle.rail_base.specs.declared.plan.Violation.{Violation}
use Rattle.rail_base.specs.declared.history.TrainHistory.{TrainHistory}
use Rattle.rail_spec.specs.Dispatches.{pasts_at}
use Rattle.rail_spec.specs.Dispatches as dispatches
use Rattle.rail_spec.specs.Requirements.{most_ticks}
use Rattle.cone_spec.specs.declared.ConeFault.{ConeFault}
use Rattle.cone_spec.specs.declared.ConeTrain.{ConeTrain}
use Rattle.cone_spec.specs.Cones.{named, of_cone}
use Rattle.cone_spec.specs.Validity as validity
use Rattle.dispatch_run.specs.declared.traffic.FollowedTrain.{FollowedTrain}
use Rattle.dispatch_run.specs.FollowedTrains.{AreFollowedTrains}
use Rattle.cone_run.specs.declared.layout.ConeLayout.{ConeLayout}
use Rattle.cone_run.specs.Checks.{IsEntry}
use Rattle.cone_run.specs.Runs.{run_of, visit_in_run}
use Rattle.rail_base.specs.Stations.{within_of, order_of}
use Rattle.rail_base.specs.declared.plan.Violation.TheVariants as violation
use Rattle.rail_course.specs.declared.journey.Journey.{Journey}
use Rattle.rail_course.specs.Journeys.{AreJourneys}

module _ (l : ConeLayout) where
  -- the station
  abbrev pub station_of : Station
  station_of = l.interlocking.now.design.station

  -- its routes
  abbrev pub routes_in : List Route
  routes_in = l.interlocking.now.routes

  -- ---- the run

  -- what happens to each train, up to the greatest horizon
  abbrev pub history_in : List TrainHistory
  history_in = run_of l.interlocking.now l.cone.now

  -- these are the journeys of all trains in the run, in file order
  abbrev pub AreJourneysOf : List Journey → Type 0
  AreJourneysOf = AreJourneys station_of routes_in (of_cone l.cone.now)

  -- these are the followed trains of all trains in the run, in file order
  abbrev pub AreFollowedTrainsOf : List FollowedTrain → Type 0
  AreFollowedTrainsOf = AreFollowedTrains station_of routes_in (of_cone l.cone.now)

  -- ---- what is asked of it

  -- what the cone says of a train is in range
  abbrev pub IsEntryOf : ConeTrain → Type 0
  IsEntryOf = IsEntry station_of routes_in l.cone.now

  -- a train's free commands are granted by its horizon
  abbrev pub free_granted : ConeTrain → Bool
  free_granted = validity.free_granted station_of routes_in l.cone.now

  -- so are those of all trains
  abbrev pub all_granted : Bool
  all_granted = list_all free_granted l.cone.now.trains

  -- the last free command of a train is granted exactly at its horizon
  abbrev pub just_granted : ConeTrain → Bool
  just_granted = validity.just_granted station_of routes_in l.cone.now

  -- a train needs a holder
  abbrev pub holder_needed : ConeTrain → Bool
  holder_needed = validity.holder_needed station_of routes_in l.cone.now

  -- the second command has released by a tick what it shares with the first, which waits for it
  abbrev pub has_cleared : ℕ → Command → Command → Bool
  has_cleared tick = let dispatch = of_cone l.cone.now in
      dispatches.has_cleared station_of routes_in dispatch (pasts_at station_of routes_in dispatch tick)

  -- a command holds up a train before its first waiting command, of this route
  abbrev pub holds_up : ConeTrain → Command → Option RouteNo → Bool
  holds_up = validity.holds_up station_of routes_in l.cone.now

  -- a train has this holder where it needs one, which holds it up, and none where it needs none
  abbrev pub holder_fits : ConeTrain → Option Command → Bool
  holder_fits = validity.holder_fits station_of routes_in l.cone.now

  -- it is so with all trains
  abbrev pub all_holders_fit : Bool
  all_holders_fit = list_all (λ (c : ConeTrain). holder_fits c c.holder) l.cone.now.trains

  -- the tick, up to this one, of a train's visit
  abbrev pub visit_in : ℕ → TrainNo → ℕ → Option ℕ
  visit_in = validity.cone_visit station_of routes_in l.cone.now

  -- the second visit of a within, whose first is made at this tick, is certain to come too late
  abbrev pub comes_late : Within → ℕ → Bool
  comes_late w tick = let last = tick + most_ticks station_of w in
      nat_le last (named l.cone.now w.to_train).horizon && is_none (visit_in last w.to_train w.to_visit)

  -- the first visit of an order, whose second is made at this tick, is certain not to come before it
  abbrev pub comes_after : Order → ℕ → Bool
  comes_after o tick =
      nat_le tick ((named l.cone.now o.first_train).horizon + 1)
      && is_none (visit_in (tick - 1) o.first_train o.first_visit)

  -- the violation is certain
  abbrev pub shows_violation : Violation → Bool
  shows_violation = validity.shows_violation station_of routes_in l.cone.now

  -- the first reason against the cone
  abbrev pub fault_in : Option ConeFault
  fault_in = validity.fault_of station_of routes_in l.cone.now

  -- the tick of a visit, where the cone's commands are granted or held up as it says
  abbrev pub visit_in_layout : TrainNo → ℕ → Option ℕ
  visit_in_layout = visit_in_run l.interlocking.now l.cone.now

  -- an answer says whether the cone shows this within, whatever its number
  abbrev pub ShowsWithin : Within → Bool → Type 0
  ShowsWithin within answer = (w : ℕ) → within_of station_of w ≡ within → answer ≡ shows_violation (violation.Within w)

  -- and this order
  abbrev pub ShowsOrder : Order → Bool → Type 0
  ShowsOrder order answer = (o : ℕ) → order_of station_of o ≡ order → answer ≡ shows_violation (violation.Order o)
