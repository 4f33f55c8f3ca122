-- The commands of trains in steps, by number.
use Rattle.std.specs.Prelude.{ℕ, ◌+◌, List, position, Option, option_map}
use Rattle.rail_base.specs.declared.plan.Command.{Command}
use Rattle.rail_base.specs.declared.station.TrainNo.{TrainNo}
use Rattle.rail_spec.specs.Plans.{is_train}

-- the first command that a step has for a train, by its number
abbrev pub command_number : List Command → TrainNo → Option ℕ
command_number step t = option_map (λ k. k + 1) (position (λ c. is_train c.train t) step)
