-- How trains stand at their visits in the run of a cone.
use Rattle.std.specs.Prelude.{◌≡◌, ℕ, true, List, None, Some}
use Rattle.rail_base.specs.declared.station.Station.{Station}
use Rattle.rail_base.specs.declared.station.TrainNo.{TrainNo}
use Rattle.rail_base.specs.declared.route.Route.{Route}
use Rattle.rail_base.specs.declared.state.PathNode.{PathNode}
use Rattle.rail_base.specs.Numbering.{entry}
use Rattle.rail_base.specs.Stations.{IsTrain}
use Rattle.rail_spec.specs.Visits.{visits_of_train}
use Rattle.rail_laws.specs.Standing.{StandsAtVisit, TrainsStand, WaitsAtItsPlace}
use Rattle.cone_spec.specs.declared.Cone.{Cone}
use Rattle.cone_spec.specs.Cones.{of_cone}
use Rattle.cone_spec.specs.Validity.{in_design}

-- a train at its place stands there in each tick up to its horizon, and no train is past its place, nor past where its
-- path makes a visit before it has stood its ticks there
pub record StandsInRun (d : Station) (routes : List Route) (k : Cone) : Type 0 where
  pub stands : TrainsStand d routes (of_cone k)
  pub waits : (tick : ℕ) (t : TrainNo) → WaitsAtItsPlace d routes (of_cone k) tick t
  pub at_visits : (tick : ℕ) (t : TrainNo) → IsTrain d t → (j : ℕ) (n : PathNode)
      → entry None (visits_of_train d routes (of_cone k) t) j ≡ Some n → StandsAtVisit d routes (of_cone k) tick t j n

-- so it is in the run of a cone that speaks of the design
abbrev pub ConeStands : Station → List Route → Cone → Type 0
ConeStands d routes k = in_design d routes k ≡ true → StandsInRun d routes k
