use Rattle.std.proofs.Common.{◌≡◌, ◌++◌, drop, map}
use Rattle.rail_outside.specs.Lines.{lines_of}
use Rattle.evidence_words.specs.Failings.{seen}
use Rattle.proof_words.specs.Said.{lent_seen}
use Rattle.proof_words.specs.Summaries.{summary_line}
use Rattle.proof_words.proofs.summary.push_summary.Given as goal

-- with those that are left
abbrev pub invariant-loop-kind : goal.invariant-loop-kind
invariant-loop-kind l = lines_of l.lines.items ++ map (summary_line l.design.station (map seen l.failings)) (lent_seen (drop l.kind-index l.kind-items)) ≡ lines_of l.initial.lines.items ++ map (summary_line l.design.station (map seen l.failings)) (lent_seen l.kind-items)
