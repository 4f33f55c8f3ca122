use Rattle.std.proofs.Common.{length, codes}
use Rattle.proof_log.specs.Parts.{cone_train}
use Rattle.proof_log.specs.Reading.{words_left}
use Rattle.proof_log.proofs.Gathering.{Gathered}
use Rattle.proof_log.proofs.cones.cone_trains.Given as goal

abbrev pub invariant-trains : goal.invariant-trains
invariant-trains l = Gathered (codes "t") cone_train (words_left l.words) l.trains (words_left l.left)

abbrev pub decreases-trains : goal.decreases-trains
decreases-trains l = length (words_left l.left)
