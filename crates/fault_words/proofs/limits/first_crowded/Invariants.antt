use Rattle.std.proofs.Common.{◌≡◌, ◌+◌, drop, length, not}
use Rattle.std.specs.List.{position_or_len}
use Rattle.design_table.specs.Texts.{visits_seen}
use Rattle.rail_base.specs.Admission.{is_from}
use Rattle.fault_words.proofs.limits.first_crowded.Given as goal

-- none of those so far is it
abbrev pub invariant-loop-place : goal.invariant-loop-place
invariant-loop-place l = position_or_len (λ visit. not (is_from 1 64 (length visit))) (visits_seen l.visits) ≡ l.place + position_or_len (λ visit. not (is_from 1 64 (length visit))) (visits_seen (drop l.place l.visits))
