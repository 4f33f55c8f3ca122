use Rattle.std.proofs.Common.{◌≡◌, drop, filter, map}
use Rattle.evidence_words.specs.Failings.{seen}
use Rattle.proof_words.specs.Summaries.{is_same, least_shortfall, lesser}
use Rattle.proof_words.proofs.summary.least_shortfall.Given as goal

-- with those that are left
abbrev pub invariant-loop-other : goal.invariant-loop-other
invariant-loop-other l = lesser l.least (least_shortfall (filter (is_same (seen l.failing)) (map seen (drop l.other-index l.failings)))) ≡ least_shortfall (filter (is_same (seen l.failing)) (map seen l.failings))
