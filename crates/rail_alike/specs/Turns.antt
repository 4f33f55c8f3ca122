-- Trains that are alike and come in turn.
use Rattle.std.specs.Prelude.{◌≡◌, ℕ, ◌≤◌, ◌<◌, true, List}
use Rattle.rail_base.specs.declared.station.Station.{Station}
use Rattle.rail_base.specs.declared.station.TrainNo.{TrainNo}
use Rattle.rail_base.specs.declared.route.Route.{Route}
use Rattle.rail_base.specs.declared.route.RouteNo.{RouteNo}
use Rattle.rail_base.specs.declared.plan.Command.{Command}
use Rattle.rail_base.specs.Members.{In}
use Rattle.rail_base.specs.Stations.{train_of, first_visit, IsTrain}
use Rattle.rail_base.specs.Routes.{IsRoute}
use Rattle.rail_spec.specs.Plans.{route_at, starts_in, has_command, step_of}
use Rattle.rail_spec.specs.Feasible.{IsFeasible}
use Rattle.rail_alike.specs.Renaming.{first_step}
use Rattle.rail_alike.specs.Alike.{AreAlike}

-- all pairs are of trains of the design
abbrev pub AreNamed : Station → List (TrainNo × TrainNo) → Type 0
AreNamed d pairs = (p : TrainNo × TrainNo) → In p pairs → IsTrain d p.0 × IsTrain d p.1

-- the trains of each pair are alike, the one with the smaller number first
abbrev pub ArePairs : Station → List (TrainNo × TrainNo) → Type 0
ArePairs d pairs = (p : TrainNo × TrainNo) → In p pairs → AreAlike d p.0 p.1 × (p.0.0 < p.1.0)

-- of each pair the first is given its first command in a step no later than the other's
abbrev pub InTurn : List (TrainNo × TrainNo) → List (List Command) → Type 0
InTurn pairs plan = (p : TrainNo × TrainNo) → In p pairs → first_step plan p.0 ≤ first_step plan p.1

-- the same of each two trains that are alike, in file order
abbrev pub AllInTurn : Station → List (List Command) → Type 0
AllInTurn d plan = (t u : TrainNo) → AreAlike d t u → t.0 < u.0 → first_step plan t ≤ first_step plan u

-- a feasible plan with the pairs in turn
pub record HasInTurn (d : Station) (n : ℕ) (pairs : List (TrainNo × TrainNo)) : Type 0 where
  pub plan : List (List Command)
  pub feasible : IsFeasible d n plan
  pub in_turn : InTurn pairs plan

-- a feasible plan with all trains that are alike in turn
pub record HasAllInTurn (d : Station) (n : ℕ) : Type 0 where
  pub plan : List (List Command)
  pub feasible : IsFeasible d n plan
  pub in_turn : AllInTurn d plan

-- where a plan of n steps is feasible, one is so with the pairs in turn
abbrev pub ComeInTurn : Station → ℕ → List (TrainNo × TrainNo) → Type 0
ComeInTurn d n pairs = (plan : List (List Command)) → IsFeasible d n plan → HasInTurn d n pairs

-- no feasible plan has the pairs in turn
abbrev pub NoneInTurn : Station → ℕ → List (TrainNo × TrainNo) → Type 0
NoneInTurn d n pairs = (plan : List (List Command)) → IsFeasible d n plan → InTurn pairs plan → ⊥

-- the train is given a route that starts at its first visit, in a step no later than the command's
pub record HasBegunBy (d : Station) (routes : List Route) (plan : List (List Command)) (t : TrainNo) (c : Command)
    : Type 0 where
  pub route : RouteNo
  pub there : IsRoute routes route
  pub starts : starts_in (first_visit (train_of d t)) (route_at routes route).start ≡ true
  pub given : has_command plan (record { train = t; route = route }) ≡ true
  pub no_later : step_of plan (record { train = t; route = route }) ≤ step_of plan c

-- it is so of every list of pairs of trains that are alike
abbrev pub EachPairing : (Station → List (TrainNo × TrainNo) → Type 0) → Type 0
EachPairing Is = (d : Station) (pairs : List (TrainNo × TrainNo)) → ArePairs d pairs → Is d pairs

-- where a train's first command comes no later than another's, by the step of each command of the other it has begun
abbrev pub EarlierHasBegun : Station → List Route → ℕ → List (List Command) → Type 0
EarlierHasBegun d routes n plan = (t : TrainNo) (c : Command) → IsTrain d t → first_step plan t ≤ first_step plan c.train
    → has_command plan c ≡ true → HasBegunBy d routes plan t c
