-- Events in runs, and the ticks between them.
use Rattle.std.specs.Prelude.{◌≡◌, ℕ, ◌-◌, ◌≤◌, Bool, true, List}
use Rattle.rail_base.specs.declared.station.Station.{Station}
use Rattle.rail_base.specs.declared.station.TrainNo.{TrainNo}
use Rattle.rail_base.specs.declared.route.Route.{Route}
use Rattle.rail_base.specs.declared.plan.Command.{Command}
use Rattle.rail_base.specs.declared.state.TrainEvent.{TrainEvent}
use Rattle.rail_spec.specs.Dispatches.{of_plan, pasts_at, has_come}

-- by the end of tick k of a plan's run the event has come to its train
abbrev pub has_come_by : Station → List Route → List (List Command) → TrainEvent → ℕ → Bool
has_come_by d routes plan e k = has_come (pasts_at d routes (of_plan routes plan) k) e

-- where the second has happened by tick k, the first had so many ticks before
pub record Takes (d : Station) (routes : List Route) (plan : List (List Command)) (e f : TrainEvent) (c k : ℕ) : Type 0 where
  pub not_before : c ≤ k
  pub happened : has_come_by d routes plan e (k - c) ≡ true

-- whenever the second has happened, the first had so many ticks before
abbrev pub HopTakes : Station → List Route → List (List Command) → TrainEvent → TrainEvent → ℕ → Type 0
HopTakes d routes plan e f c = (k : ℕ) → has_come_by d routes plan f k ≡ true → Takes d routes plan e f c k

-- so many commands of a train, and a place of its head
abbrev pub reaching : TrainNo → ℕ → ℕ → TrainEvent
reaching t j x = record { train = t; event = record { granted = j; place = x }; ticks = 0 }

-- the grant of a train's command of this number
abbrev pub granting : TrainNo → ℕ → TrainEvent
granting t j = record { train = t; event = record { granted = j; place = 0 }; ticks = 0 }

-- that a train's head is at a place of its path
abbrev pub heading : TrainNo → ℕ → TrainEvent
heading t x = record { train = t; event = record { granted = 0; place = x }; ticks = 0 }
