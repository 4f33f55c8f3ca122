-- Names by number, which are empty where a number names nothing.
use Rattle.std.specs.Prelude.{ℕ, List, []}
use Rattle.rail_base.specs.declared.station.Station.{Station}
use Rattle.rail_base.specs.declared.station.NodeNo.{NodeNo}
use Rattle.rail_base.specs.declared.station.SectionNo.{SectionNo}
use Rattle.rail_base.specs.declared.station.SignalNo.{SignalNo}
use Rattle.rail_base.specs.declared.station.TrainNo.{TrainNo}
use Rattle.rail_base.specs.Numbering.{entry}
use Rattle.rail_base.specs.Stations.{node_of, signal_of, train_of}

-- the name of a train
abbrev pub train_name : Station → TrainNo → List ℕ
train_name d t = (train_of d t).name

-- the name of a node
abbrev pub node_name : Station → NodeNo → List ℕ
node_name d n = (node_of d n).name

-- the name of a section
abbrev pub section_name : Station → SectionNo → List ℕ
section_name d z = entry [] d.sections z.0

-- the name of a signal
abbrev pub signal_name : Station → SignalNo → List ℕ
signal_name d s = (signal_of d s).name
