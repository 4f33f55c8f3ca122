use Rattle.std.proofs.Common.{◌≡◌, drop}
use Rattle.std.specs.List.{list_any}
use Rattle.evidence_words.specs.Failings.{seen}
use Rattle.proof_words.specs.Said.{lent_seen}
use Rattle.proof_words.specs.Summaries.{is_same}
use Rattle.proof_words.proofs.summary.has_same.Given as goal

-- with those that are left
abbrev pub invariant-loop-kind : goal.invariant-loop-kind
invariant-loop-kind l = list_any (λ kind. is_same kind (seen l.failing)) (lent_seen (drop l.kind-index l.kinds)) ≡ list_any (λ kind. is_same kind (seen l.failing)) (lent_seen l.kinds)
