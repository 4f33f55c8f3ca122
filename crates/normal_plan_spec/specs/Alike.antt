-- Plans with the same paths and the same order of their commands.
use Rattle.std.specs.Prelude.{◌≡◌, ℕ, List}
use Rattle.rail_base.specs.declared.station.Station.{Station}
use Rattle.rail_base.specs.declared.station.TrainNo.{TrainNo}
use Rattle.rail_base.specs.declared.route.Route.{Route}
use Rattle.rail_base.specs.declared.plan.Command.{Command}
use Rattle.rail_spec.specs.Track.{routes_of}
use Rattle.rail_spec.specs.Plans.{path, precedes}
use Rattle.rail_spec.specs.Dispatches.{of_plan, state_at}
use Rattle.rail_spec.specs.Feasible.{IsFeasible}
use Rattle.rail_spec.specs.Requirements.{meets}
use Rattle.rail_plan.specs.Earlier.{IsAsGood}

-- the second plan has the path of the first for each train, and in both the same commands precede one another
pub record HasSameOrder (routes : List Route) (plan other : List (List Command)) : Type 0 where
  pub paths : (t : TrainNo) → path other t ≡ path plan t
  pub order : (e c : Command) → precedes routes other e c ≡ precedes routes plan e c

-- after each tick it is in the state of the first
abbrev pub RunsAs : Station → List Route → List (List Command) → List (List Command) → Type 0
RunsAs d routes plan other = (k : ℕ)
    → state_at d routes (of_plan routes other) k ≡ state_at d routes (of_plan routes plan) k

-- so is each plan with the same paths and order
abbrev pub RunAlikeInOneOrder : Station → List Route → List (List Command) → Type 0
RunAlikeInOneOrder d routes plan = (other : List (List Command)) → HasSameOrder routes plan other
    → RunsAs d routes plan other

-- each such plan meets the design where this one does, and only there
abbrev pub MeetAlikeInOneOrder : Station → List Route → List (List Command) → Type 0
MeetAlikeInOneOrder d routes plan = (other : List (List Command)) → HasSameOrder routes plan other
    → meets d routes other ≡ meets d routes plan

-- each plan that is as good as a feasible one is feasible
abbrev pub IsFeasibleWhereAsGood : Type 0
IsFeasibleWhereAsGood = (d : Station) (n : ℕ) (plan other : List (List Command)) → IsFeasible d n plan
    → IsAsGood d (routes_of d) plan other → IsFeasible d n other
