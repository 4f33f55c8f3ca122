-- The station in two parts, as it is made.
use Rattle.std.specs.Prelude.{map}
use Rattle.design_table.specs.Parsed.{ParsedSheet}
use Rattle.infra_reader.specs.declared.resolve.Track.{Track}
use Rattle.infra_reader.specs.declared.resolve.Traffic.{Traffic}
use Rattle.infra_reader.specs.Names.{Names}
use Rattle.infra_reader.specs.Stations.{node_in, edge_in, signal_in, vehicle_in, train_in, order_in, within_in}
use Rattle.infra_reader.specs.Stations.{overlap_in}

abbrev pub track_in : Names → ParsedSheet → Track
track_in names s = record {
  nodes = map (node_in names) s.nodes;
  edges = map (edge_in names) s.edges;
  sections = names.sections;
  signals = map (signal_in names) s.signals;
}

abbrev pub traffic_in : Names → ParsedSheet → Traffic
traffic_in names s = record {
  vehicles = map (vehicle_in names) s.vehicles;
  trains = map (train_in names) s.trains;
  orders = map (order_in names) s.orders;
  withins = map (within_in names) s.withins;
  overlaps = map (overlap_in names) s.overlaps;
}
