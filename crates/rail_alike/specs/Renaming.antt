-- Trains under other numbers, and the plans that give their commands to these.
use Rattle.std.specs.Prelude.{◌≡◌, ℕ, ◌+◌, List, [], ◌∷◌, map, if◌then◌else◌, ◌↔◌}
use Rattle.std.specs.List.{list_any}
use Rattle.rail_base.specs.declared.station.Station.{Station}
use Rattle.rail_base.specs.declared.station.Order.{Order}
use Rattle.rail_base.specs.declared.station.Within.{Within}
use Rattle.rail_base.specs.declared.station.TrainNo.{TrainNo}
use Rattle.rail_base.specs.declared.plan.Command.{Command}
use Rattle.rail_base.specs.Members.{In}
use Rattle.rail_base.specs.Stations.{train_of, IsTrain}
use Rattle.rail_spec.specs.Plans.{is_train}
use Rattle.rail_base.specs.declared.route.Route.{Route}
use Rattle.rail_spec.specs.Dispatches.{state_of, of_plan, state_at}
use Rattle.rail_spec.specs.Feasible.{IsFeasible}

-- the command, given to the train's other number
abbrev pub renamed_command : (TrainNo → TrainNo) → Command → Command
renamed_command other c = record { train = other c.train; route = c.route }

-- so is each command of the plan, in its step
abbrev pub renamed : (TrainNo → TrainNo) → List (List Command) → List (List Command)
renamed other plan = map (map (renamed_command other)) plan

-- the order of the same visits of the trains with the other numbers
abbrev pub renamed_order : (TrainNo → TrainNo) → Order → Order
renamed_order other o = record {
  first_train = other o.first_train;
  first_visit = o.first_visit;
  then_train = other o.then_train;
  then_visit = o.then_visit;
}

-- the within of the same visits of the trains with the other numbers
abbrev pub renamed_within : (TrainNo → TrainNo) → Within → Within
renamed_within other w = record {
  from_train = other w.from_train;
  from_visit = w.from_visit;
  to_train = other w.to_train;
  to_visit = w.to_visit;
  max_ms = w.max_ms;
}

-- the design says nothing of a train that it doesn't say of the train with the other number, but for its name
pub record Renames (d : Station) (other : TrainNo → TrainNo) : Type 0 where
  pub back : (t : TrainNo) → other (other t) ≡ t
  pub named : (t : TrainNo) → IsTrain d t → IsTrain d (other t)
  pub vehicle : (t : TrainNo) → (train_of d (other t)).vehicle ≡ (train_of d t).vehicle
  pub visits : (t : TrainNo) → (train_of d (other t)).visits ≡ (train_of d t).visits
  pub dwells : (t : TrainNo) → (train_of d (other t)).dwell_ms ≡ (train_of d t).dwell_ms
  pub order : (o : Order) → In o d.orders → In (renamed_order other o) d.orders
  pub within : (w : Within) → In w d.withins → In (renamed_within other w) d.withins

-- the first step that gives the train a command, or one past the last where none does
abbrev pub first_step : List (List Command) → TrainNo → ℕ
first_step [] t = 1
first_step (step ∷ steps) t =
    if list_any (λ c. is_train c.train t) step then 1 else first_step steps t + 1

-- in the run of a plan with other trains each other train is where its train is in the plan's own
abbrev pub RunsAreRenamed : Station → (TrainNo → TrainNo) → Type 0
RunsAreRenamed d other = (routes : List Route) (plan : List (List Command)) (k : ℕ) (x : TrainNo)
    → state_of (state_at d routes (of_plan routes (renamed other plan)) k) (other x)
    ≡ state_of (state_at d routes (of_plan routes plan) k) x

-- a plan is feasible exactly where it is so with the other trains
abbrev pub StaysFeasible : Station → (TrainNo → TrainNo) → Type 0
StaysFeasible d other = (n : ℕ) (plan : List (List Command)) → IsFeasible d n (renamed other plan) ↔ IsFeasible d n plan
