use Rattle.std.proofs.Common.{◌≡◌, ◌+◌, take, drop}
use Rattle.infra_reader.specs.Names.{repeated}
use Rattle.design_table.specs.Texts.{texts}
use Rattle.infra_reader.proofs.Walking.{places_from}
use Rattle.infra_reader.proofs.Repeats.{repeat_at}
use Rattle.infra_reader.proofs.names.distinct.Given as goal

abbrev pub invariant-loop-index : goal.invariant-loop-index
invariant-loop-index l = record {
  before : texts l.seen.keys ≡ take l.index (texts l.names);
  places : repeated l.kind (texts l.names) ≡ places_from (repeat_at l.kind (texts l.names)) (λ name. name.now) (l.index + 1) (drop l.index l.names);
}
