use Rattle.std.proofs.Common.{◌≡◌, ◌++◌, drop, map}
use Rattle.std.specs.List.{list_all}
use Rattle.infra_reader.specs.Names.{is_among}
use Rattle.design_table.specs.Texts.{texts, visits_seen}
use Rattle.infra_reader.specs.Stations.{nodes_in}
use Rattle.infra_reader.proofs.resolve.visits_nodes.Given as goal

abbrev pub invariant-loop-visit : goal.invariant-loop-visit
invariant-loop-visit l =
    let names = texts l.nodes.keys in
    record {
      among : list_all (list_all (is_among names)) (visits_seen l.visits) ≡ list_all (list_all (is_among names)) (visits_seen (drop l.visit-index l.visits));
      each : map (nodes_in names) (visits_seen l.visits) ≡ l.numbers.items ++ map (nodes_in names) (visits_seen (drop l.visit-index l.visits));
    }
