use Rattle.std.proofs.Common.{length, codes}
use Rattle.proof_log.specs.Parts.{pair}
use Rattle.proof_log.specs.Reading.{words_left}
use Rattle.proof_log.proofs.Gathering.{Gathered}
use Rattle.proof_log.proofs.cones.cone_pairs.Given as goal

abbrev pub invariant-pairs : goal.invariant-pairs
invariant-pairs l = Gathered (codes "p") pair (words_left l.words) l.pairs (words_left l.left)

abbrev pub decreases-pairs : goal.decreases-pairs
decreases-pairs l = length (words_left l.left)
