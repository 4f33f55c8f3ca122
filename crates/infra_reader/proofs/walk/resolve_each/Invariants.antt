use Rattle.std.proofs.Common.{◌≡◌, ◌+◌, ◌++◌, drop, map}
use Rattle.design_table.specs.Reads.{in_each}
use Rattle.infra_reader.specs.Seen.{names_seen}
use Rattle.infra_reader.proofs.Walking.{places_from}
use Rattle.infra_reader.proofs.walk.resolve_each.Given as goal

abbrev pub invariant-loop-index : goal.invariant-loop-index
invariant-loop-index g l =
    let names = names_seen l.names in
    let places = g.E.Resolve.unknown names in
    let seen = g.E.Resolve.seen in
    let read = g.E.Resolve.resolved names in
    record {
      places : in_each places (map seen l.entries) ≡ places_from places seen (l.index + 1) (drop l.index l.entries);
      each : map read (map seen l.entries) ≡ l.resolved.items ++ map read (map seen (drop l.index l.entries));
    }
