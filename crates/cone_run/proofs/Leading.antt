-- The traffic of a cone.
use Rattle.std.proofs.Common.{◌≡◌, true, List, Some, sym, ap}
use Rattle.rail_base.specs.declared.station.Station.{Station}
use Rattle.rail_base.specs.declared.route.Route.{Route}
use Rattle.rail_base.specs.Admitted.{IsAdmitted}
use Rattle.rail_spec.specs.Track.{routes_of}
use Rattle.rail_laws.proofs.Authority.{stands_at_place, stands_at_visit, waits_at_place}
use Rattle.rail_course.specs.Journeys.{IsJourney}
use Rattle.cone_spec.specs.declared.Cone.{Cone}
use Rattle.cone_spec.specs.Cones.{named, of_cone}
use Rattle.cone_spec.specs.Validity.{in_design}
use Rattle.dispatch_run.specs.declared.traffic.FollowedTrain.{FollowedTrain}
use Rattle.dispatch_run.specs.FollowedTrains.{IsFollowedTrain, MayGo, follows}
use Rattle.cone_run.specs.Standing.{StandsInRun}
use Rattle.cone_run.proofs.Ranging.{cone_orderly}
use Rattle.cone_run.proofs.Riding.{can_move_at, can_go_at}

pub followed_train_is : (d : Station) (routes : List Route) (k : Cone) (f : FollowedTrain) → IsJourney d routes (of_cone k) f.journey → f.until ≡ Some (named k f.journey.train_path.train).horizon → IsFollowedTrain d routes (of_cone k) f
followed_train_is d routes k f is ends = record { journey = is; following = λ i. ap (λ u. follows u i) (sym ends) }

module _ (d : Station) (routes : List Route) (k : Cone) (known : in_design d routes k ≡ true) where
  pub may_go : IsAdmitted d → routes ≡ routes_of d → MayGo d routes (of_cone k)
  may_go adm table = record {
    on = can_go_at d routes k adm (cone_orderly d adm routes table k known);
    next = can_move_at d routes k adm (cone_orderly d adm routes table k known);
  }

  -- its trains stand at their visits
  pub stands : IsAdmitted d → routes ≡ routes_of d → StandsInRun d routes k
  stands adm table = record {
    stands = stands_at_place d routes (of_cone k);
    waits = waits_at_place d routes (of_cone k) (cone_orderly d adm routes table k known);
    at_visits = stands_at_visit d routes (of_cone k) (cone_orderly d adm routes table k known);
  }
