use Rattle.std.proofs.Common.{◌≡◌, ◌+◌, take, drop}
use Rattle.infra_reader.specs.Names.{overlaps_repeated}
use Rattle.design_table.specs.Texts.{texts}
use Rattle.infra_reader.proofs.Walking.{places_from}
use Rattle.infra_reader.proofs.Repeats.{second_at, AlsoAmong}
use Rattle.infra_reader.proofs.names.refuse_second.Given as goal

abbrev pub invariant-loop-index : goal.invariant-loop-index
invariant-loop-index l =
    let signals = texts l.signals.keys in
    record {
      before : AlsoAmong (texts l.seen.keys) (take l.index (texts l.names));
      places : overlaps_repeated signals (texts l.names) ≡ places_from (second_at signals (texts l.names)) (λ name. name.now) (l.index + 1) (drop l.index l.names);
    }
