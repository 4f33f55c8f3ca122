-- Which nodes a train passes, and which visits it makes, each with its tick.
use Rattle.std.specs.Prelude.{ℕ, Bool, List, map, Option, None, option_and_then, is_some}
use Rattle.std.specs.List.{list_all}
use Rattle.rail_base.specs.declared.station.Station.{Station}
use Rattle.rail_base.specs.declared.station.NodeNo.{NodeNo}
use Rattle.rail_base.specs.declared.station.TrainNo.{TrainNo}
use Rattle.rail_base.specs.declared.route.Route.{Route}
use Rattle.rail_base.specs.declared.state.Event.{Event}
use Rattle.rail_base.specs.declared.state.PathNode.{PathNode}
use Rattle.rail_base.specs.Numbering.{entry, least}
use Rattle.rail_base.specs.Events.{has_happened}
use Rattle.rail_base.specs.Stations.{train_of}
use Rattle.rail_spec.specs.Plans.{route_at}
use Rattle.rail_spec.specs.Places.{path_nodes, visits_on}
use Rattle.rail_spec.specs.Dispatches.{Dispatch, state_of, state_at}

module _ (d : Station) (routes : List Route) (p : Dispatch) where
  -- by the end of tick k this has happened to the train
  abbrev pub happened_by : TrainNo → Event → ℕ → Bool
  happened_by t e k = has_happened (state_of (state_at d routes p k) t) e

  -- the tick, up to k, at which it passes a node of its path
  abbrev pub pass_tick : ℕ → TrainNo → PathNode → Option ℕ
  pass_tick k t path_node = least (happened_by t path_node.event) k

  -- the nodes of the train's path
  abbrev pub path_nodes_of_train : TrainNo → List PathNode
  path_nodes_of_train t = path_nodes (map (route_at routes) (p.path t))

  -- where the train's visits are made, in order
  abbrev pub visits_of_train : TrainNo → List (Option PathNode)
  visits_of_train t = visits_on (train_of d t).visits (path_nodes (map (route_at routes) (p.path t)))

  -- the nodes of the train's path with the ticks, up to k, at which they are passed
  abbrev pub passed : ℕ → TrainNo → List (NodeNo × Option ℕ)
  passed k t = map (λ path_node. (path_node.node, pass_tick k t path_node)) (path_nodes_of_train t)

  -- the tick, up to k, of a visit
  abbrev pub visit_tick : ℕ → TrainNo → ℕ → Option ℕ
  visit_tick k t j = option_and_then (pass_tick k t) (entry None (visits_of_train t) j)

  -- the whole path makes every visit of the train
  abbrev pub makes_visits : TrainNo → Bool
  makes_visits t = list_all is_some (visits_of_train t)

  -- by the end of tick k the visit is made
  abbrev pub visited_by : ℕ → TrainNo → ℕ → Bool
  visited_by k t j = is_some (visit_tick k t j)
