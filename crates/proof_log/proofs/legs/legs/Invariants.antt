use Rattle.std.proofs.Common.{length, codes}
use Rattle.proof_log.specs.Reading.{words_left}
use Rattle.proof_log.proofs.Gathering.{Gathered}
use Rattle.proof_log.specs.Bounds.{leg}
use Rattle.proof_log.proofs.legs.legs.Given as goal

abbrev pub invariant-legs : goal.invariant-legs
invariant-legs l = Gathered (codes "l") leg (words_left l.words) l.legs (words_left l.left)

abbrev pub decreases-legs : goal.decreases-legs
decreases-legs l = length (words_left l.left)
