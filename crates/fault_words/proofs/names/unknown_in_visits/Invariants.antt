use Rattle.std.proofs.Common.{◌≡◌, drop}
use Rattle.std.specs.List.{find, flat_map}
use Rattle.design_table.specs.Texts.{visits_seen}
use Rattle.design_table.specs.Parsed.{sheet_seen}
use Rattle.fault_words.specs.Names.{is_unknown}
use Rattle.fault_words.proofs.names.unknown_in_visits.Given as goal

-- it is to be found in the rest
abbrev pub invariant-loop-visit : goal.invariant-loop-visit
invariant-loop-visit l = find (is_unknown (sheet_seen l.sheet)) (flat_map (λ visit. visit) (visits_seen (drop l.visit-index l.visits))) ≡ find (is_unknown (sheet_seen l.sheet)) (flat_map (λ visit. visit) (visits_seen l.visits))
