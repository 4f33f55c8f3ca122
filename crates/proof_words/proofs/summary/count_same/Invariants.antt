use Rattle.std.proofs.Common.{◌≡◌, ◌≤◌, ◌+◌, drop, filter, length, map}
use Rattle.evidence_words.specs.Failings.{seen}
use Rattle.proof_words.specs.Summaries.{is_same}
use Rattle.proof_words.proofs.summary.count_same.Given as goal

-- with those that are left
abbrev pub invariant-loop-other : goal.invariant-loop-other
invariant-loop-other l = (l.count ≤ l.other-index) × (l.count + length (filter (is_same (seen l.failing)) (map seen (drop l.other-index l.failings))) ≡ length (filter (is_same (seen l.failing)) (map seen l.failings)))
