-- What has happened in the run of a plan by a tick, and what the run shows of the plan.
use Rattle.std.specs.Prelude.{ℕ, Bool, ◌==◌, nat_le, nat_lt, if◌then◌else◌, List, [], map, flat_map, take}
use Rattle.std.specs.Prelude.{Option, None, Some, option_and_then, option_map}
use Rattle.std.specs.List.{enumerate_from, sum}
use Rattle.rail_base.specs.declared.station.Station.{Station}
use Rattle.rail_base.specs.declared.station.NodeNo.{NodeNo}
use Rattle.rail_base.specs.declared.station.SectionNo.{SectionNo}
use Rattle.rail_base.specs.declared.station.TrainNo.{TrainNo}
use Rattle.rail_base.specs.declared.route.Route.{Route}
use Rattle.rail_base.specs.declared.route.RouteNo.{RouteNo}
use Rattle.rail_base.specs.declared.plan.Command.{Command}
use Rattle.rail_base.specs.declared.plan.Violation.{Violation}
use Rattle.rail_base.specs.declared.history.TrainHistory.{TrainHistory}
use Rattle.rail_base.specs.declared.history.Verdict.{Verdict}
use Rattle.rail_base.specs.declared.history.Verdict.TheVariants.{Met, Failed, Undecided}
use Rattle.rail_base.specs.Numbering.{entry, least}
use Rattle.rail_base.specs.Stations.{trains, dwell_ticks}
use Rattle.rail_base.specs.Routes.{route_at, own_sections, held_sections}
use Rattle.rail_spec.specs.Plans.{path}
use Rattle.rail_base.specs.declared.state.PathNode.{PathNode}
use Rattle.rail_spec.specs.Dispatches.{state_of, of_plan, has_released, pasts_at, state_at}
use Rattle.rail_spec.specs.Visits.{pass_tick, visits_of_train, passed}
use Rattle.rail_spec.specs.Requirements.{visit_numbers, granted_by, violation_at, path_violation, cost}

-- how many ticks a train stands at its visits up to the one of this number
abbrev pub dwell_up_to : Station → TrainNo → ℕ → ℕ
dwell_up_to d t j = sum (take j (dwell_ticks d t))

module _ (d : Station) (routes : List Route) (plan : List (List Command)) where
  -- the tick, up to k, at which the train's command of this number is granted
  abbrev pub grant_tick : ℕ → TrainNo → ℕ → Option ℕ
  grant_tick k t j = least (λ i. granted_by d routes plan i t j) k

  -- by the end of tick k a command has released a section
  abbrev pub released_by : Command → SectionNo → ℕ → Bool
  released_by c z k = let run = of_plan routes plan in has_released d routes run (pasts_at d routes run k) c z

  -- the tick, up to k, at which it has
  abbrev pub release_tick : ℕ → Command → SectionNo → Option ℕ
  release_tick k c z = least (released_by c z) k

  -- the commands of the train's path with the ticks, up to k, at which they are granted
  abbrev pub granted : ℕ → TrainNo → List (RouteNo × Option ℕ)
  granted k t = map (λ p. (p.1, grant_tick k t p.0)) (enumerate_from 1 (path plan t))

  -- these sections of a route of the path with the ticks, up to k, at which they are released
  abbrev pub released_of : ℕ → TrainNo → RouteNo → List SectionNo → List (RouteNo × SectionNo × Option ℕ)
  released_of k t r zs = map (λ z. (r, z, release_tick k (record { train = t; route = r }) z)) zs

  -- those that each route of the path goes over
  abbrev pub released : ℕ → TrainNo → List (RouteNo × SectionNo × Option ℕ)
  released k t = flat_map (λ r. released_of k t r (own_sections (route_at routes r))) (path plan t)

  -- those of the overlap at its end
  abbrev pub held_on : ℕ → TrainNo → List (RouteNo × SectionNo × Option ℕ)
  held_on k t = flat_map (λ r. released_of k t r (held_sections (route_at routes r))) (path plan t)

  -- where a visit is made, with the tick, up to k
  abbrev pub visit_made : ℕ → TrainNo → Option PathNode → Option (NodeNo × ℕ)
  visit_made k t place =
      let tick = pass_tick d routes (of_plan routes plan) k t in
      option_and_then (λ path_node. option_map (λ i. (path_node.node, i)) (tick path_node)) place

  -- by the end of tick k the train has stood its ticks at its visits up to the one of this number
  abbrev pub has_stood : TrainNo → ℕ → ℕ → Bool
  has_stood t j k = nat_le (dwell_up_to d t j) (state_of (state_at d routes (of_plan routes plan) k) t).stood

  -- the tick, up to k, at which it has stood its ticks at the visit of this number; none where it need not stand there
  abbrev pub dwell_tick : ℕ → TrainNo → ℕ → Option ℕ
  dwell_tick k t j = if entry 0 (dwell_ticks d t) j == 0 then None else least (has_stood t j) k

  -- what has happened to the train by tick k
  abbrev pub train_history : ℕ → TrainNo → TrainHistory
  train_history k t = record {
    grants = granted k t;
    passes = passed d routes (of_plan routes plan) k t;
    releases = released k t;
    holds = held_on k t;
    visits = map (visit_made k t) (visits_of_train d routes (of_plan routes plan) t);
    dwells = map (dwell_tick k t) (visit_numbers d t);
  }

  -- what has happened to each train by tick k
  abbrev pub history_at : ℕ → List TrainHistory
  history_at k = map (train_history k) (trains d)

  -- what is said of the plan at its deciding tick: a path that fails, or else what is certain then, or else that all is met
  abbrev pub decided : Option Violation → Option Violation → Verdict
  decided (Some v) w = Failed [] 1 v
  decided None (Some v) = Failed (history_at (cost d routes plan)) (cost d routes plan) v
  decided None None = Met (history_at (cost d routes plan)) (cost d routes plan)

  -- what so many ticks show of the plan
  abbrev pub verdict_of : ℕ → Verdict
  verdict_of ticks =
      let told = decided (path_violation d routes plan) (violation_at d routes plan (cost d routes plan)) in
      if nat_lt ticks (cost d routes plan) then Undecided else told
