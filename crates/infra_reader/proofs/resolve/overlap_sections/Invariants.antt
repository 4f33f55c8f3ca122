use Rattle.std.proofs.Common.{◌≡◌, ◌++◌, drop}
use Rattle.std.specs.List.{list_all}
use Rattle.infra_reader.specs.Names.{is_among}
use Rattle.design_table.specs.Texts.{texts}
use Rattle.infra_reader.specs.Stations.{sections_in}
use Rattle.infra_reader.proofs.resolve.overlap_sections.Given as goal

abbrev pub invariant-loop-name : goal.invariant-loop-name
invariant-loop-name l =
    let names = texts l.known.keys in
    record {
      among : list_all (is_among names) (texts l.sections) ≡ list_all (is_among names) (texts (drop l.name-index l.sections));
      each : sections_in names (texts l.sections) ≡ l.numbers.items ++ sections_in names (texts (drop l.name-index l.sections));
    }
