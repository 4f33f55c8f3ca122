use Rattle.std.proofs.Common.{◌≡◌, ◌+◌, ◌*◌, ◌≤◌, drop, count_by}
use Rattle.rail_base.specs.declared.station.End.{End}
use Rattle.rail_base.specs.Stations.{is_end}
use Rattle.infra_reader.specs.Track.{edge_ends}
use Rattle.infra_reader.proofs.rules.ends_at.Given as goal

abbrev pub invariant-loop-edge : goal.invariant-loop-edge
invariant-loop-edge l =
    let is_here = λ (end : End). is_end end (record { node = record { 0 = l.node }; side = l.side }) in
    record {
      few : l.count ≤ 2 * l.edge-index;
      rest : count_by is_here (edge_ends l.station.edges) ≡ l.count + count_by is_here (edge_ends (drop l.edge-index l.station.edges));
    }
