-- The normal plan of one that is feasible.
use Rattle.std.specs.Prelude.{ℕ, ◌≤◌, List, length}
use Rattle.rail_base.specs.declared.station.Station.{Station}
use Rattle.rail_base.specs.declared.plan.Command.{Command}
use Rattle.rail_spec.specs.Track.{routes_of}
use Rattle.rail_spec.specs.Feasible.{IsFeasible}
use Rattle.rail_plan.specs.Normal.{IsNormal}
use Rattle.normal_plan_spec.specs.Alike.{HasSameOrder, RunsAs}

-- a normal plan that is feasible for as many steps, runs as this one does, by the same paths and order, and has no more steps
pub record HasNormalPlan (d : Station) (n : ℕ) (plan : List (List Command)) : Type 0 where
  pub other : List (List Command)
  pub feasible : IsFeasible d n other
  pub normal : IsNormal d (routes_of d) other
  pub same : HasSameOrder (routes_of d) plan other
  pub run : RunsAs d (routes_of d) plan other
  pub fewer : length other ≤ length plan
