-- Runs that verdicts show.
use Rattle.std.specs.Prelude.{ℕ, List}
use Rattle.rail_base.specs.declared.station.Station.{Station}
use Rattle.rail_base.specs.declared.route.Route.{Route}
use Rattle.rail_base.specs.declared.plan.Command.{Command}
use Rattle.rail_base.specs.declared.history.TrainHistory.{TrainHistory}
use Rattle.outcome_words.specs.declared.run.ShownRun.{ShownRun}

-- what is said of a plan and what has happened in its run up to a last tick
abbrev pub of_run : {X : Type 0} → ShownRun → (List Route → List (List Command) → List TrainHistory → ℕ → X) → X
of_run r f = f r.interlocking.now.routes r.plan.now.steps r.history.now r.last

-- the same with the names of the station
abbrev pub of_shown : {X : Type 0} → ShownRun → (Station → List Route → List (List Command) → List TrainHistory → ℕ → X) → X
of_shown r f = f r.interlocking.now.design.station r.interlocking.now.routes r.plan.now.steps r.history.now r.last
