use Rattle.std.proofs.Common.{◌≡◌, ◌++◌, drop}
use Rattle.std.specs.List.{list_all}
use Rattle.infra_reader.specs.Names.{is_among}
use Rattle.design_table.specs.Texts.{texts}
use Rattle.infra_reader.specs.Stations.{nodes_in}
use Rattle.infra_reader.proofs.resolve.visit_nodes.Given as goal

abbrev pub invariant-loop-name : goal.invariant-loop-name
invariant-loop-name l =
    let names = texts l.nodes.keys in
    record {
      among : list_all (is_among names) (texts l.visit) ≡ list_all (is_among names) (texts (drop l.name-index l.visit));
      each : nodes_in names (texts l.visit) ≡ l.numbers.items ++ nodes_in names (texts (drop l.name-index l.visit));
    }
