use Rattle.std.proofs.Common.{◌≡◌, drop}
use Rattle.std.specs.List.{list_all}
use Rattle.track_layout.specs.Lines.{are_apart}
use Rattle.track_layout.proofs.lines.are_clear.Given as goal

abbrev pub invariant-loop-flat : goal.invariant-loop-flat
invariant-loop-flat l = list_all (λ flat. list_all (are_apart flat) l.flats) (drop l.flat-index l.taken) ≡ list_all (λ flat. list_all (are_apart flat) l.flats) l.taken
