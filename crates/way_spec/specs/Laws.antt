-- What the laws say of ways and of plans.
use Rattle.std.specs.Prelude.{◌≡◌, ℕ, ◌≤◌, true, List, length}
use Rattle.rail_base.specs.declared.station.Station.{Station}
use Rattle.rail_base.specs.declared.station.TrainNo.{TrainNo}
use Rattle.rail_base.specs.declared.route.Route.{Route}
use Rattle.rail_base.specs.declared.plan.Command.{Command}
use Rattle.rail_base.specs.Members.{In}
use Rattle.rail_base.specs.Stations.{IsTrain}
use Rattle.rail_spec.specs.Feasible.{IsFeasible, IsInfeasible}
use Rattle.rail_spec.specs.Plans.{commands, path}
use Rattle.rail_spec.specs.Track.{routes_of}
use Rattle.rail_spec.specs.Visits.{makes_visits}
use Rattle.rail_spec.specs.Dispatches.{of_plan}
use Rattle.way_spec.specs.Ways.{HasWay, IsFewestRoutes, IsFewestSteps, IsLive, IsMostRoutes, IsWay}

-- it is so of every feasible plan, whatever the number of steps
abbrev pub OfEveryFeasible : (Station → List (List Command) → Type 0) → Type 0
OfEveryFeasible Is = (d : Station) (n : ℕ) (plan : List (List Command)) → IsFeasible d n plan → Is d plan

-- in a plan, over any routes, the path of a train that makes all its visits is a way of it
abbrev pub VisitingPathsAreWays : Station → List Route → ℕ → List (List Command) → Type 0
VisitingPathsAreWays d routes n plan = (t : TrainNo) → IsTrain d t
    → makes_visits d routes (of_plan routes plan) t ≡ true → IsWay d routes t (path plan t)

-- the routes of each train, in order, are a way of it
abbrev pub PathsAreWays : Station → List (List Command) → Type 0
PathsAreWays d plan = (t : TrainNo) → IsTrain d t → IsWay d (routes_of d) t (path plan t)

-- the route of each command is live
abbrev pub CommandsAreLive : Station → List (List Command) → Type 0
CommandsAreLive d plan = (c : Command) → In c (commands plan) → IsLive d (routes_of d) c.train c.route

-- it has at least as many steps as a train's shortest way has routes
abbrev pub TakesFewest : Station → List (List Command) → Type 0
TakesFewest d plan = (t : TrainNo) (k : ℕ) → IsTrain d t → IsFewestRoutes d (routes_of d) t k → k ≤ length plan

-- so it has at least as many as the longest of these
abbrev pub TakesFewestOfAll : Station → List (List Command) → Type 0
TakesFewestOfAll d plan = (n : ℕ) → IsFewestSteps d (routes_of d) n → n ≤ length plan

-- no train has more commands than it can have routes at the most
abbrev pub HasMostRoutes : Station → List (List Command) → Type 0
HasMostRoutes d plan = (t : TrainNo) (n : ℕ) → IsTrain d t → IsMostRoutes d (routes_of d) t n → length (path plan t) ≤ n

-- a train without a way makes a design infeasible
abbrev pub NeedsWays : Station → Type 0
NeedsWays d = (t : TrainNo) → IsTrain d t → (HasWay d (routes_of d) t → ⊥) → (n : ℕ) → IsInfeasible d n

-- where some plan is feasible, one of at most so many steps is
abbrev pub HasShortPlan : Station → ℕ → Type 0
HasShortPlan d m = (n : ℕ) (plan : List (List Command)) → IsFeasible d n plan
    → (short : List (List Command)) × IsFeasible d m short

-- so where no plan of so many steps or more is feasible, none of any number of steps is
abbrev pub NoneOfAny : Station → ℕ → Type 0
NoneOfAny d m = (n : ℕ) → m ≤ n → IsInfeasible d n → (k : ℕ) → IsInfeasible d k
