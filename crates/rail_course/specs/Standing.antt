-- How trains stand at their visits in the run of a plan.
use Rattle.std.specs.Prelude.{◌≡◌, ℕ, List, None, Some}
use Rattle.rail_base.specs.declared.station.Station.{Station}
use Rattle.rail_base.specs.declared.station.TrainNo.{TrainNo}
use Rattle.rail_base.specs.declared.route.Route.{Route}
use Rattle.rail_base.specs.declared.plan.Command.{Command}
use Rattle.rail_base.specs.declared.state.PathNode.{PathNode}
use Rattle.rail_base.specs.Numbering.{entry}
use Rattle.rail_base.specs.Stations.{IsTrain}
use Rattle.rail_spec.specs.Dispatches.{of_plan}
use Rattle.rail_spec.specs.Visits.{visits_of_train}
use Rattle.rail_laws.specs.Standing.{StandsAtVisit}

-- each train stands exactly where its path makes a visit, and isn't past there before it has stood its ticks
abbrev pub StandsAtVisits : Station → List Route → List (List Command) → Type 0
StandsAtVisits d routes plan = (k : ℕ) (t : TrainNo) → IsTrain d t → (j : ℕ) (n : PathNode)
    → entry None (visits_of_train d routes (of_plan routes plan) t) j ≡ Some n
    → StandsAtVisit d routes (of_plan routes plan) k t j n
