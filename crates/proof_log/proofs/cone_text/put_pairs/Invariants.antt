use Rattle.std.proofs.Common.{◌≡◌, ◌++◌, flat_map, drop}
use Rattle.proof_log.specs.ConeText.{pair_words}
use Rattle.proof_log.specs.Writing.{spaced}
use Rattle.proof_log.proofs.cone_text.put_pairs.Given as goal

abbrev pub invariant-loop-pair : goal.invariant-loop-pair
invariant-loop-pair l = l.fn.text.items ++ flat_map (λ x. spaced (pair_words x)) l.pairs ≡ l.text.items ++ flat_map (λ x. spaced (pair_words x)) (drop l.pair-index l.pairs)
