use Rattle.std.proofs.Common.{◌≡◌, ◌++◌, flat_map, drop}
use Rattle.proof_log.specs.BoundText.{leg_words}
use Rattle.proof_log.specs.Writing.{spaced}
use Rattle.proof_log.proofs.bound_text.put_legs.Given as goal

abbrev pub invariant-loop-leg : goal.invariant-loop-leg
invariant-loop-leg l = l.fn.text.items ++ flat_map (λ x. spaced (leg_words x)) l.legs ≡ l.text.items ++ flat_map (λ x. spaced (leg_words x)) (drop l.leg-index l.legs)
