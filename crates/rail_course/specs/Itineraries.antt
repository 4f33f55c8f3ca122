-- What itineraries give the trains.
use Rattle.std.specs.Prelude.{◌≡◌, Bool, true, List, []}
use Rattle.std.specs.Global.{Vec}
use Rattle.rail_base.specs.declared.station.SectionNo.{SectionNo}
use Rattle.rail_base.specs.declared.station.TrainNo.{TrainNo}
use Rattle.rail_base.specs.declared.route.Route.{Route}
use Rattle.rail_base.specs.declared.route.RouteNo.{RouteNo}
use Rattle.rail_base.specs.declared.plan.Command.{Command}
use Rattle.rail_base.specs.Numbering.{entry}
use Rattle.rail_base.specs.declared.state.TrainState.{TrainState}
use Rattle.rail_spec.specs.Dispatches.{Dispatch, routes_before, has_cleared}
use Rattle.rail_course.specs.declared.train_path.TrainPath.{TrainPath}
use Rattle.rail_course.specs.declared.itineraries.Itineraries.{Itineraries}
use Rattle.rail_course.specs.declared.journey.Journey.{Journey}
use Rattle.rail_course.specs.declared.journey.Release.{Release}
use Rattle.rail_course.specs.declared.journey.Hold.{Hold}
use Rattle.rail_course.specs.declared.waits.Wait.{Wait}
use Rattle.rail_course.specs.TrainPaths.{AreTrainPaths, IsTrainPath}
use Rattle.rail_course.specs.Journeys.{IsJourney, AreJourneys}
use Rattle.rail_course.specs.Releases.{release_for, releases_of_route, releases_of_train}
use Rattle.rail_course.specs.Holds.{hold_for, holds_of_route, holds_of_train}
use Rattle.rail_course.specs.Ready.{AreWaitsOf, GiveWhatIsReady, AllGiveWhatIsReady}
use Rattle.rail_course.specs.Tracks.{IsCommand}
use Rattle.rail_course.specs.Waits.{AreWaits, IsWait, own_waits, hold_waits}

-- the command that gives a train this route
abbrev pub command_of : TrainNo → RouteNo → Command
command_of t r = record { train = t; route = r }

module _ (i : Itineraries) where
  -- the path of a train
  abbrev pub path_in : TrainNo → List RouteNo
  path_in t = entry [] i.paths.items t.0

  -- the trains go their paths, and no command waits
  abbrev pub going_in : Dispatch
  going_in = record { path = path_in; before = λ c. []; concerns = λ k t. true }

  -- the command names a train and a route
  abbrev pub IsCommandIn : Command → Type 0
  IsCommandIn = IsCommand i.interlocking.now.design.station i.interlocking.now.routes

  -- the train path is that of its train
  abbrev pub IsTrainPathIn : TrainPath → Type 0
  IsTrainPathIn c = IsTrainPath i.interlocking.now.design.station i.interlocking.now.routes (path_in c.train) c

  -- these are the train paths of all trains, in file order
  abbrev pub AreTrainPathsIn : List TrainPath → Type 0
  AreTrainPathsIn = AreTrainPaths i.interlocking.now.design.station i.interlocking.now.routes path_in

  -- the waits of each train, in file order, give what is ready
  abbrev pub AllGiveIn : Dispatch → List (List (Vec Wait)) → Type 0
  AllGiveIn = AllGiveWhatIsReady i.interlocking.now.design.station i.interlocking.now.routes

  -- these are the journeys of all trains in a dispatch, in file order
  abbrev pub AreJourneysIn : Dispatch → List Journey → Type 0
  AreJourneysIn = AreJourneys i.interlocking.now.design.station i.interlocking.now.routes

  -- the routes before a command on its train's path
  abbrev pub before_in : Command → List Route
  before_in = routes_before i.interlocking.now.design.station i.interlocking.now.routes going_in

  -- for each own section of a command's route, and each of its overlap, the wait for the command to release it
  abbrev pub own_waits_in : Command → List (SectionNo × Wait)
  own_waits_in = own_waits i.interlocking.now.design.station i.interlocking.now.routes going_in

  abbrev pub hold_waits_in : Command → List (SectionNo × Wait)
  hold_waits_in = hold_waits i.interlocking.now.design.station i.interlocking.now.routes going_in

  -- it is known how the wait ends
  abbrev pub IsWaitIn : Wait → Type 0
  IsWaitIn = IsWait i.interlocking.now.design.station i.interlocking.now.routes going_in

  -- the second command has released every section that the two share
  abbrev pub has_cleared_in : List (List TrainState) → Command → Command → Bool
  has_cleared_in = has_cleared i.interlocking.now.design.station i.interlocking.now.routes going_in

  -- the trains go their paths, and commands wait for these
  abbrev pub waiting_in : (Command → List Command) → Dispatch
  waiting_in before = record { path = path_in; before = before; concerns = λ k t. true }

  -- the command's waits are over exactly where it is ready, where these are to come before it
  abbrev pub AreWaitsIn : (Command → List Command) → Command → List Wait → Type 0
  AreWaitsIn before = AreWaits i.interlocking.now.design.station i.interlocking.now.routes (waiting_in before)

  -- so are the waits of each command of a train's path
  abbrev pub AreTrainWaitsIn : (Command → List Command) → TrainNo → List (List Wait) → Type 0
  AreTrainWaitsIn before t =
      AreWaitsOf i.interlocking.now.design.station i.interlocking.now.routes (waiting_in before) t (path_in t)

  -- when a command has released an own section
  abbrev pub release_in : Command → SectionNo → Release
  release_in = release_for i.interlocking.now.design.station i.interlocking.now.routes going_in

  -- the releases of one route of a train's path
  abbrev pub route_releases_in : TrainNo → RouteNo → List Release
  route_releases_in = releases_of_route i.interlocking.now.design.station i.interlocking.now.routes going_in

  -- those of all its routes
  abbrev pub releases_in : TrainNo → List Release
  releases_in = releases_of_train i.interlocking.now.design.station i.interlocking.now.routes going_in

  -- how a command holds a section of its overlap
  abbrev pub hold_in : Command → SectionNo → Hold
  hold_in = hold_for i.interlocking.now.design.station i.interlocking.now.routes going_in

  -- the holds of one route of a train's path
  abbrev pub route_holds_in : TrainNo → RouteNo → List Hold
  route_holds_in = holds_of_route i.interlocking.now.design.station i.interlocking.now.routes going_in

  -- those of all its routes
  abbrev pub holds_in : TrainNo → List Hold
  holds_in = holds_of_train i.interlocking.now.design.station i.interlocking.now.routes going_in

  -- the journey is that of its train in each dispatch with these paths in which these waits say what is ready
  abbrev pub IsJourneyIn : TrainPath → List (List Wait) → Journey → Type 0
  IsJourneyIn c waits j = (p : Dispatch) → path_in ≡ p.path
      → GiveWhatIsReady i.interlocking.now.design.station i.interlocking.now.routes p c.train waits
      → IsJourney i.interlocking.now.design.station i.interlocking.now.routes p j
