-- What the laws say of plans that are refused.
use Rattle.std.specs.Prelude.{◌≡◌, ℕ, ◌+◌, ◌-◌, ◌<◌, ◌≤◌, ◌⊎◌, true, List, [], take, sum_by, Some, Err}
use Rattle.rail_base.specs.declared.plan.Command.{Command}
use Rattle.rail_base.specs.declared.route.Route.{Route}
use Rattle.rail_base.specs.declared.route.RouteNo.{RouteNo}
use Rattle.rail_base.specs.declared.station.SectionNo.{SectionNo}
use Rattle.rail_base.specs.declared.station.Station.{Station}
use Rattle.rail_base.specs.declared.station.TrainNo.{TrainNo}
use Rattle.rail_base.specs.Members.{In}
use Rattle.rail_base.specs.Numbering.{entry, first_of_list}
use Rattle.rail_base.specs.Routes.{length_mm}
use Rattle.rail_spec.specs.Plans.{commands, path, routes_given, step_of}
use Rattle.rail_plan.specs.declared.fault.PlanCode.TheVariants.{P3, P4}
use Rattle.rail_plan.specs.declared.place.PlanPlace.TheVariants as place
use Rattle.rail_plan.specs.Executable.{keeps_from}
use Rattle.rail_plan.specs.Reading.{admitted_plan}
use Rattle.plan_faults.specs.declared.reasons.Reason.{Reason}
use Rattle.plan_faults.specs.Kept.{keeper, lacking_mm, routes_between, wanted_mm}
use Rattle.plan_faults.specs.Reasons.{IsSo, reason_in}

-- a train is given a route
abbrev pub command : TrainNo → RouteNo → Command
command t r = record { train = t; route = r }

module _ (d : Station) (routes : List Route) (plan : List (List Command)) where
  -- there is a reason against a train's command in a step, and it is so
  pub record HasReason (i : ℕ) (t : TrainNo) : Type 0 where
    pub reason : Reason
    pub found : reason_in d routes t plan i ≡ Some reason
    pub so : IsSo d routes t (path (take (i - 1) plan) t) (routes_given t (entry [] plan i)) reason

  -- the first is given so much track before the second, and lacks the rest of what is wanted
  abbrev pub Lacks : Command → Command → SectionNo → Type 0
  Lacks e c z = (step_of plan e < step_of plan c) × (1 ≤ lacking_mm d routes plan e c z)
      × (sum_by length_mm (routes_between d routes plan e c) + lacking_mm d routes plan e c z ≡ wanted_mm d routes e z)

  -- there is a command that keeps a train's command in a step from a section: in that step, or in an earlier one, and then
  -- its train lacks some track
  pub record HasKeeper (i : ℕ) (t : TrainNo) (z : SectionNo) : Type 0 where
    pub route : RouteNo
    pub given : first_of_list (routes_given t (entry [] plan i)) ≡ Some route
    pub first : Command
    pub found : keeper d routes plan (command t route) z ≡ Some first
    pub there : In first (commands plan)
    pub keeps : keeps_from d routes plan (command t route) z first ≡ true
    pub why : (step_of plan first ≡ step_of plan (command t route)) ⊎ Lacks first (command t route) z

  -- a plan that is refused for a train's command in a step has such a reason
  abbrev pub MisplacedHasReason : Type 0
  MisplacedHasReason = (i : ℕ) (t : TrainNo) → admitted_plan d routes plan ≡ Err (P3, place.Train i t) → HasReason i t

  -- a plan that is refused for a section has such a command
  abbrev pub BlockedHasKeeper : Type 0
  BlockedHasKeeper = (i : ℕ) (t : TrainNo) (z : SectionNo) → admitted_plan d routes plan ≡ Err (P4, place.Section i t z)
      → HasKeeper i t z
