-- The commands of a plan by trains, with places counted from 0.
use Rattle.std.specs.Prelude.{ℕ, List, [], length, nat_le, if◌then◌else◌, Option, option_map, find}
use Rattle.std.specs.List.{slice_range}
use Rattle.rail_base.specs.declared.station.TrainNo.{TrainNo}
use Rattle.rail_base.specs.declared.plan.Command.{Command}
use Rattle.rail_base.specs.Numbering.{entry}
use Rattle.rail_spec.specs.Plans.{is_route}
use Rattle.bound_chains.specs.declared.paths.Given.{Given}
use Rattle.bound_chains.specs.declared.paths.Paths.{Paths}

-- the members from one place to before another; none where the list has not so many
abbrev pub part_of : {X : Type 0} → List X → ℕ → ℕ → List X
part_of xs first end = if nat_le end (length xs) then slice_range xs first end else []

-- where the commands of a train begin and end
abbrev pub span_of : Paths → TrainNo → ℕ × ℕ
span_of paths t = entry (0, 0) paths.spans.items t.0

-- the commands of a train
abbrev pub commands_of : Paths → TrainNo → List Given
commands_of paths t = part_of paths.given.items (span_of paths t).0 (span_of paths t).1

-- the step of the first command of a train that has this route
abbrev pub step_of : Paths → Command → Option ℕ
step_of paths c =
    option_map (λ given. given.step) (find (λ given. is_route given.command.route c.route) (commands_of paths c.train))
