-- The journeys of trains.
use Rattle.std.specs.Prelude.{◌≡◌, List, All, map}
use Rattle.rail_base.specs.declared.station.Station.{Station}
use Rattle.rail_base.specs.declared.route.Route.{Route}
use Rattle.rail_base.specs.Stations.{trains}
use Rattle.rail_spec.specs.Dispatches.{Dispatch, of_plan}
use Rattle.rail_course.specs.declared.journey.Journey.{Journey}
use Rattle.rail_course.specs.Milestones.{AreMilestones, ComeInTurn}
use Rattle.rail_course.specs.TrainPaths.{IsTrainPath}
use Rattle.rail_course.specs.Ready.{GiveWhatIsReady}
use Rattle.rail_course.specs.Releases.{releases_of_train}
use Rattle.rail_course.specs.Holds.{holds_of_train}
use Rattle.rail_base.specs.declared.plan.Command.{Command}

-- the journey is that of its train
pub record IsJourney (d : Station) (routes : List Route) (p : Dispatch) (j : Journey) : Type 0 where
  pub train_path : IsTrainPath d routes (p.path j.train_path.train) j.train_path
  pub telling : GiveWhatIsReady d routes p j.train_path.train (map (λ v. v.items) j.waits.items)
  pub releasing : j.releases.items ≡ releases_of_train d routes p j.train_path.train
  pub holding : j.holds.items ≡ holds_of_train d routes p j.train_path.train
  pub milestones : AreMilestones (map (λ r. r.event.place) j.releases.items) j.release_milestones.items
  pub in_turn : ComeInTurn (λ r. r.event.place) (λ r. r.event.granted) j.releases.items

-- these are the journeys of all trains, in file order
pub record AreJourneys (d : Station) (routes : List Route) (p : Dispatch) (js : List Journey) : Type 0 where
  pub all : map (λ (j : Journey). j.train_path.train) js ≡ trains d
  pub each : All (IsJourney d routes p) js

-- these are the journeys of all trains in a plan, in file order
abbrev pub ArePlanJourneys : Station → List Route → List (List Command) → List Journey → Type 0
ArePlanJourneys d routes plan js = AreJourneys d routes (of_plan routes plan) js
