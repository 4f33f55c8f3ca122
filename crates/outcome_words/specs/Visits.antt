-- Visits and times of a run, in words.
use Rattle.std.specs.Prelude.{ℕ, List, ◌++◌, codes, Option, None, Some}
use Rattle.rail_base.specs.declared.station.Station.{Station}
use Rattle.rail_base.specs.declared.station.NodeNo.{NodeNo}
use Rattle.rail_base.specs.declared.station.TrainNo.{TrainNo}
use Rattle.rail_base.specs.declared.history.TrainHistory.{TrainHistory}
use Rattle.rail_base.specs.Names.{node_name}
use Rattle.rail_base.specs.Numbering.{entry}
use Rattle.rail_require.specs.Ticks.{history_of}
use Rattle.cone_words.specs.Names.{nodes_text}
use Rattle.cone_words.specs.Times.{ms_of}
use Rattle.asked_words.specs.Quantities.{duration_text}
use Rattle.run_drawing.specs.Requirements.{visit_of_train}

-- so many ticks in minutes and seconds
abbrev pub time_text : Station → ℕ → List ℕ
time_text d ticks = duration_text (ms_of d ticks)

-- where and when a visit is made, by what has happened
abbrev pub visit_made : List TrainHistory → TrainNo → ℕ → Option (NodeNo × ℕ)
visit_made history t j = entry None (history_of history t).visits j

-- `, at x`: the node at which it is made, or else those at which it may be
abbrev pub place_text : Station → TrainNo → ℕ → Option (NodeNo × ℕ) → List ℕ
place_text d t j None = nodes_text d t j
place_text d t j (Some made) = codes ", at " ++ node_name d made.0

-- `ICe visit 1, at w1`
abbrev pub visit_text : Station → List TrainHistory → TrainNo → ℕ → List ℕ
visit_text d history t j = visit_of_train d t j ++ place_text d t j (visit_made history t j)

-- `ICe visit 3 is not made by 6 min 12 s`
abbrev pub missing_text : Station → ℕ → TrainNo → ℕ → List ℕ
missing_text d last t j = visit_of_train d t j ++ codes " is not made by " ++ time_text d last
