use Rattle.std.proofs.Common.{◌≡◌, ◌+◌, drop}
use Rattle.rail_course.specs.Tracks.{path_length}
use Rattle.free_moves.proofs.following.length_of.Given as goal

abbrev pub invariant-loop-number : goal.invariant-loop-number
invariant-loop-number l = l.length + path_length l.routes (drop l.number-index l.path) ≡ path_length l.routes l.path
