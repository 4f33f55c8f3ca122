-- A plan that is run, and its traffic.
use Rattle.std.specs.Prelude.{◌≡◌, List}
use Rattle.rail_base.specs.declared.plan.Command.{Command}
use Rattle.rail_spec.specs.Feasible.{IsWellFormed}
use Rattle.rail_spec.specs.Dispatches.{Dispatch}
use Rattle.rail_spec.specs.Dispatches.{of_plan}
use Rattle.dispatch_run.specs.declared.traffic.Traffic.{Traffic}
use Rattle.dispatch_run.specs.FollowedTrains.{IsTraffic}

-- the dispatch is that of a well-formed plan, and the traffic its
pub record IsPlanned (dispatch : Dispatch) (traffic : Traffic) (plan : List (List Command)) : Type 0 where
  pub formed : IsWellFormed traffic.interlocking.now.design.station traffic.interlocking.now.routes 256 plan
  pub same : dispatch ≡ of_plan traffic.interlocking.now.routes plan
  pub is : IsTraffic dispatch traffic
