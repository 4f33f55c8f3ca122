use Rattle.std.proofs.Common.{◌≡◌, ◌+◌, drop}
use Rattle.design_table.specs.Reads.{in_each}
use Rattle.infra_reader.proofs.Walking.{own_places_from}
use Rattle.infra_reader.proofs.walk.refuse_each.Given as goal

abbrev pub invariant-loop-index : goal.invariant-loop-index
invariant-loop-index g l =
    let places = g.R.Rule.places l.station in
    in_each places l.entries ≡ own_places_from places (l.index + 1) (drop l.index l.entries)
