use Rattle.std.proofs.Common.{◌≡◌, drop}
use Rattle.rail_base.specs.Members.{all_pairs}
use Rattle.track_layout.specs.Lines.{are_apart}
use Rattle.track_layout.proofs.lines.are_pairwise_apart.Given as goal

abbrev pub invariant-loop-index : goal.invariant-loop-index
invariant-loop-index l = all_pairs are_apart (drop l.index l.flats) ≡ all_pairs are_apart l.flats
