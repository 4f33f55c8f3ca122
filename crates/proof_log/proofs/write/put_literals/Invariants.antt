use Rattle.std.proofs.Common.{◌≡◌, ◌++◌, map, drop}
use Rattle.proof_log.specs.ConeText.{literal_word}
use Rattle.proof_log.specs.Writing.{spaced}
use Rattle.proof_log.proofs.write.put_literals.Given as goal

abbrev pub invariant-loop-literal : goal.invariant-loop-literal
invariant-loop-literal l = l.fn.text.items ++ spaced (map literal_word l.clause) ≡ l.text.items ++ spaced (map literal_word (drop l.literal-index l.clause))
