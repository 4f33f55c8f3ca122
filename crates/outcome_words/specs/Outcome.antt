-- What a verdict says of a plan, in words.
use Rattle.std.specs.Prelude.{ℕ, List, [], ◌∷◌, ◌++◌, codes, flat_map, None, Some}
use Rattle.rail_base.specs.declared.station.Station.{Station}
use Rattle.rail_base.specs.declared.station.TrainNo.{TrainNo}
use Rattle.rail_base.specs.declared.route.Route.{Route}
use Rattle.rail_base.specs.declared.plan.Command.{Command}
use Rattle.rail_base.specs.declared.plan.Violation.{Violation}
use Rattle.rail_base.specs.declared.plan.Violation.TheVariants as violation
use Rattle.rail_base.specs.declared.history.TrainHistory.{TrainHistory}
use Rattle.rail_base.specs.declared.history.Verdict.{Verdict}
use Rattle.rail_base.specs.declared.history.Verdict.TheVariants.{Met, Failed, Undecided}
use Rattle.rail_base.specs.Stations.{trains}
use Rattle.run_drawing.specs.Requirements.{visit_of_train}
use Rattle.cone_words.specs.Names.{nodes_text}
use Rattle.outcome_words.specs.Requirements.{requirement_lines}
use Rattle.outcome_words.specs.Stands.{train_lines}

-- `no run: the routes given do not make ICe visit 2, at x`
abbrev pub path_line : Station → TrainNo → ℕ → List ℕ
path_line d t j = codes "no run: the routes given do not make " ++ visit_of_train d t j ++ nodes_text d t j ++ codes "\n"

-- of a run that was ended too early
abbrev pub undecided_line : List ℕ
undecided_line = codes "undecided: the run was ended before it showed whether the plan meets the design\n"

-- where no run shows anything: why, and all requirements
abbrev pub unknown_lines : Station → List ℕ → List (List ℕ)
unknown_lines d why = why ∷ requirement_lines d [] None

module _ (d : Station) (routes : List Route) (plan : List (List Command)) where
  -- by what has happened up to a last tick: all requirements, and then all waits and stands, train by train
  abbrev pub run_lines : List TrainHistory → ℕ → List (List ℕ)
  run_lines history last =
      requirement_lines d history (Some last) ++ flat_map (train_lines d routes plan history last) (trains d)

  -- of a plan that fails
  abbrev pub failed_lines : List TrainHistory → ℕ → Violation → List (List ℕ)
  failed_lines history last (violation.Path t j) = unknown_lines d (path_line d t j)
  failed_lines history last (violation.Within w) = run_lines history last
  failed_lines history last (violation.Order o) = run_lines history last
  failed_lines history last (violation.Grant t j) = run_lines history last
  failed_lines history last (violation.Visit t j) = run_lines history last

  -- of any plan
  abbrev pub outcome_lines : Verdict → List (List ℕ)
  outcome_lines (Met history last) = run_lines history last
  outcome_lines (Failed history last why) = failed_lines history last why
  outcome_lines Undecided = unknown_lines d undecided_line
