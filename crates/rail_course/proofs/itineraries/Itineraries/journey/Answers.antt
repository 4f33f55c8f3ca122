use Rattle.std.proofs.Common.{◌≡◌, List, map, subst}
use Rattle.rail_base.specs.declared.station.Station.{Station}
use Rattle.rail_base.specs.declared.station.TrainNo.{TrainNo}
use Rattle.rail_base.specs.declared.route.Route.{Route}
use Rattle.rail_base.specs.declared.route.RouteNo.{RouteNo}
use Rattle.rail_spec.specs.Dispatches.{Dispatch}
use Rattle.rail_course.specs.declared.journey.Journey.{Journey}
use Rattle.rail_course.specs.declared.journey.Release.{Release}
use Rattle.rail_course.specs.Milestones.{AreMilestones, ComeInTurn}
use Rattle.rail_course.specs.TrainPaths.{IsTrainPath}
use Rattle.rail_course.specs.Journeys.{IsJourney}
use Rattle.rail_course.specs.Releases.{releases_of_train}
use Rattle.rail_course.specs.Holds.{holds_of_train}
use Rattle.rail_course.specs.Ready.{GiveWhatIsReady}
use Rattle.rail_course.proofs.itineraries.Itineraries.journey.Goals as goal

-- a journey on the same paths
same_paths : (d : Station) (routes : List Route) (p : Dispatch) (path : TrainNo → List RouteNo) (j : Journey) → path ≡ p.path → IsTrainPath d routes (path j.train_path.train) j.train_path
    → AreMilestones (map (λ (r : Release). r.event.place) j.releases.items) j.release_milestones.items → ComeInTurn (λ (r : Release). r.event.place) (λ (r : Release). r.event.granted) j.releases.items
    → j.releases.items ≡ releases_of_train d routes (record { path = path; before = p.before; concerns = p.concerns }) j.train_path.train → j.holds.items ≡ holds_of_train d routes (record { path = path; before = p.before; concerns = p.concerns }) j.train_path.train → GiveWhatIsReady d routes p j.train_path.train (map (λ v. v.items) j.waits.items) → IsJourney d routes p j
same_paths d routes p path j same train_path milestones in_turn releases holds tell = record {
  train_path = subst (λ path. IsTrainPath d routes (path j.train_path.train) j.train_path) same train_path;
  telling = tell;
  releasing = subst (λ path. j.releases.items ≡ releases_of_train d routes (record { path = path; before = p.before; concerns = p.concerns }) j.train_path.train) same releases;
  holding = subst (λ path. j.holds.items ≡ holds_of_train d routes (record { path = path; before = p.before; concerns = p.concerns }) j.train_path.train) same holds;
  milestones = milestones;
  in_turn = in_turn;
}

pub returns-clause-journey : goal.returns-clause-journey
returns-clause-journey c = λ p same tell. same_paths _ _ p _ _ same c.requires (subst (λ rs. AreMilestones (map (λ (r : Release). r.event.place) rs) c.in_ok-release_milestones.release_milestones.items) c.deref.ensures.value c.in_ok-release_milestones.ensures) c.in_ok-releases.ensures.in_turn c.in_ok-releases.ensures.releases c.in_ok-holds.ensures tell
