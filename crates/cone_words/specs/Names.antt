-- How visits are named.
use Rattle.std.specs.Prelude.{ℕ, List, [], ◌++◌, codes, decimal}
use Rattle.rail_base.specs.declared.station.Station.{Station}
use Rattle.rail_base.specs.declared.station.TrainNo.{TrainNo}
use Rattle.rail_base.specs.Numbering.{entry}
use Rattle.rail_base.specs.declared.station.NodeNo.{NodeNo}
use Rattle.rail_base.specs.Stations.{train_of}
use Rattle.rail_base.specs.Names.{train_name, node_name}
use Rattle.cone_words.specs.Phrases.{joined}

-- the nodes of a train's visit
abbrev pub nodes_of_visit : Station → TrainNo → ℕ → List NodeNo
nodes_of_visit d t k = entry [] (train_of d t).visits k

-- `<train> makes visit <k>`
abbrev pub makes_text : Station → TrainNo → ℕ → List ℕ
makes_text d t k = train_name d t ++ codes " makes visit " ++ decimal k

-- `, at <node> or <node>`: the nodes of the visit
abbrev pub nodes_text : Station → TrainNo → ℕ → List ℕ
nodes_text d t k = codes ", at " ++ joined (codes " or ") (node_name d) (nodes_of_visit d t k)
