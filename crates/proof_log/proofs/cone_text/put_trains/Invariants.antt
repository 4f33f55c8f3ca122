use Rattle.std.proofs.Common.{◌≡◌, ◌++◌, flat_map, drop}
use Rattle.proof_log.specs.ConeText.{train_words}
use Rattle.proof_log.specs.Writing.{spaced}
use Rattle.proof_log.proofs.cone_text.put_trains.Given as goal

abbrev pub invariant-loop-train : goal.invariant-loop-train
invariant-loop-train l = l.fn.text.items ++ flat_map (λ x. spaced (train_words x)) l.trains ≡ l.text.items ++ flat_map (λ x. spaced (train_words x)) (drop l.train-index l.trains)
