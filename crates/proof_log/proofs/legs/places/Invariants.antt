use Rattle.std.proofs.Common.{length, codes}
use Rattle.proof_log.specs.Reading.{words_left}
use Rattle.proof_log.specs.Bounds.{place_of}
use Rattle.proof_log.proofs.BoundsGathering.{Gathered}
use Rattle.proof_log.proofs.legs.places.Given as goal

abbrev pub invariant-places : goal.invariant-places
invariant-places l = Gathered (codes "l") place_of (words_left l.words) l.places (words_left l.left)

abbrev pub decreases-places : goal.decreases-places
decreases-places l = length (words_left l.left)
