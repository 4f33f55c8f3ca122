use Rattle.std.proofs.Common.{◌≡◌, ◌++◌, drop, None}
use Rattle.track_layout.specs.Lines.{flats_after}
use Rattle.track_layout.proofs.lines.flats_along.Given as goal

abbrev pub invariant-loop-point : goal.invariant-loop-point
invariant-loop-point l = l.flats.items ++ flats_after l.before (drop l.point-index l.points) ≡ flats_after None l.points
