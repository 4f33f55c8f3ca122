use Rattle.std.proofs.Common.{◌≡◌, ◌++◌, drop, filter, map}
use Rattle.evidence_words.specs.Failings.{seen}
use Rattle.proof_words.specs.Said.{lent_seen}
use Rattle.proof_words.specs.Summaries.{one_of_each}
use Rattle.proof_words.proofs.Firsts.{is_new}
use Rattle.proof_words.proofs.summary.one_of_each.Given as goal

-- with those that are left
abbrev pub invariant-loop-failing : goal.invariant-loop-failing
invariant-loop-failing l = lent_seen l.kinds.items ++ filter (is_new (lent_seen l.kinds.items)) (one_of_each (map seen (drop l.failing-index l.failings))) ≡ one_of_each (map seen l.failings)
