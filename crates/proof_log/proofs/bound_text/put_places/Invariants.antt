use Rattle.std.proofs.Common.{◌≡◌, ◌++◌, flat_map, drop}
use Rattle.proof_log.specs.BoundText.{place_words}
use Rattle.proof_log.specs.Writing.{spaced}
use Rattle.proof_log.proofs.bound_text.put_places.Given as goal

abbrev pub invariant-loop-place : goal.invariant-loop-place
invariant-loop-place l = l.fn.text.items ++ flat_map (λ x. spaced (place_words x)) l.places ≡ l.text.items ++ flat_map (λ x. spaced (place_words x)) (drop l.place-index l.places)
