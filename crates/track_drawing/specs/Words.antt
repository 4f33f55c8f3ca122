-- The words of a picture of a track, and how many shapes it has.
use Rattle.std.specs.Prelude.{ℕ, ◌+◌, ◌*◌, List, ◌++◌, map, length}
use Rattle.rail_base.specs.declared.station.Station.{Station}
use Rattle.rail_base.specs.declared.station.Node.{Node}
use Rattle.rail_base.specs.declared.station.Signal.{Signal}

-- the name of a node
abbrev pub node_name : Node → List ℕ
node_name node = node.name

-- the name of a signal
abbrev pub signal_name : Signal → List ℕ
signal_name signal = signal.name

-- the names of all sections, nodes and signals, each in the order of their numbers
abbrev pub track_words : Station → List (List ℕ)
track_words d = d.sections ++ map node_name d.nodes ++ map signal_name d.signals

-- at most three shapes for each edge, four for each section, six for each node and each signal, and three headings
abbrev pub track_size : Station → ℕ
track_size d = 3 * length d.edges + 4 * length d.sections + 6 * length d.nodes + 6 * length d.signals + 3
