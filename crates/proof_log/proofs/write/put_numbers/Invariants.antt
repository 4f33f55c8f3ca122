use Rattle.std.proofs.Common.{◌≡◌, ◌++◌, map, drop, decimal}
use Rattle.proof_log.specs.Writing.{spaced}
use Rattle.proof_log.proofs.write.put_numbers.Given as goal

abbrev pub invariant-loop-number : goal.invariant-loop-number
invariant-loop-number l = l.fn.text.items ++ spaced (map decimal l.numbers) ≡ l.text.items ++ spaced (map decimal (drop l.number-index l.numbers))
