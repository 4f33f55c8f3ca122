-- What the run of a plan shows.
use Rattle.std.specs.Prelude.{ℕ, List, map, Option, None, Some, option_map, option_and_then}
use Rattle.rail_base.specs.declared.station.TrainNo.{TrainNo}
use Rattle.rail_base.specs.declared.history.TrainHistory.{TrainHistory}
use Rattle.rail_base.specs.Numbering.{entry}
use Rattle.leg_targets.specs.declared.targets.Visit.{Visit}

-- what has happened to a train, if it is there
abbrev pub history_of : List TrainHistory → TrainNo → Option TrainHistory
history_of history t = entry None (map Some history) t.0

-- the tick at which a visit is made, where that has come
abbrev pub visit_tick : List TrainHistory → Visit → Option ℕ
visit_tick history visit =
    option_and_then (λ train. option_map (λ made. made.1) (entry None train.visits visit.number)) (history_of history visit.train)
