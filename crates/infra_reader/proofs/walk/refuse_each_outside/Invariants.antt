use Rattle.std.proofs.Common.{◌≡◌, ◌+◌, drop, map}
use Rattle.design_table.specs.Reads.{in_each}
use Rattle.infra_reader.proofs.Walking.{places_from}
use Rattle.infra_reader.proofs.walk.refuse_each_outside.Given as goal

abbrev pub invariant-loop-index : goal.invariant-loop-index
invariant-loop-index g l =
    let places = g.E.Limited.outside in
    let seen = g.E.Limited.seen in
    in_each places (map seen l.entries) ≡ places_from places seen (l.index + 1) (drop l.index l.entries)
