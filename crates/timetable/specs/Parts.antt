-- Parts of a timetable, as they are put together.
use Rattle.std.specs.Prelude.{ℕ, List, ◌++◌, decimal}
use Rattle.rail_base.specs.declared.station.Station.{Station}
use Rattle.rail_base.specs.declared.station.TrainNo.{TrainNo}
use Rattle.rail_base.specs.declared.history.TrainHistory.{TrainHistory}
use Rattle.rail_base.specs.Names.{train_name}
use Rattle.timetable.specs.Timetable.{train_lines}

-- the lines of the train of this number
abbrev pub numbered_lines : Station → ℕ → TrainHistory → List (List ℕ)
numbered_lines d n train = train_lines d (record { 0 = n }) train

-- what failed, with the train and a number
abbrev pub failed_train : Station → List ℕ → TrainNo → List ℕ → ℕ → List ℕ
failed_train d what t counted n = what ++ train_name d t ++ counted ++ decimal n
