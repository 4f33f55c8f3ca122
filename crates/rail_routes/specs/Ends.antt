-- What stands at each end of a station, gathered once.
use Rattle.std.specs.Prelude.{Bool, ◌||◌, List, map, length}
use Rattle.rail_base.specs.declared.station.Station.{Station}
use Rattle.rail_base.specs.declared.station.End.{End}
use Rattle.rail_base.specs.declared.station.Side.{Side}
use Rattle.rail_base.specs.declared.station.EdgeNo.{EdgeNo}
use Rattle.rail_base.specs.declared.station.SignalNo.{SignalNo}
use Rattle.rail_base.specs.Numbering.{one_to}
use Rattle.rail_base.specs.Stations.{edge_of, is_end, leave, signal_of}
use Rattle.rail_spec.specs.Track.{signals_at}
use Rattle.rail_routes.specs.declared.track.AtEnd.{AtEnd}

-- the edges at an end, and the signals for trains that leave by it
abbrev pub edges_at_end : Station → End → AtEnd
edges_at_end d end = record { edges = leave d end; signals = signals_at d end }

-- what is at one side of each node
abbrev pub at_side : Station → Side → List AtEnd
at_side d side = map (λ n. edges_at_end d (record { node = record { 0 = n }; side = side })) (one_to (length d.nodes))

-- the edge has one of its ends there
abbrev pub meets : Station → EdgeNo → End → Bool
meets d e end = is_end (edge_of d e).from end || is_end (edge_of d e).to end

-- the end by which the trains leave for whom a signal stands
abbrev pub leave_by : Station → SignalNo → End
leave_by d s = record { node = (signal_of d s).node; side = (signal_of d s).toward }
