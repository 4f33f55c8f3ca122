use Rattle.std.proofs.Common.{◌≡◌, drop}
use Rattle.std.specs.List.{list_all}
use Rattle.track_layout.specs.Lines.{are_apart}
use Rattle.track_layout.proofs.lines.is_clear.Given as goal

abbrev pub invariant-loop-other : goal.invariant-loop-other
invariant-loop-other l = list_all (are_apart l.flat) (drop l.other-index l.flats) ≡ list_all (are_apart l.flat) l.flats
