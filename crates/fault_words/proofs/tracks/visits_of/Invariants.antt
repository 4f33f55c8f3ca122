use Rattle.std.proofs.Common.{◌≡◌, bytes_eq, drop, map, length}
use Rattle.std.specs.List.{find}
use Rattle.std.specs.Option.{option_map_or}
use Rattle.design_table.specs.Parsed.{train_seen, sheet_seen}
use Rattle.fault_words.specs.Tracks.{visits_of}
use Rattle.fault_words.proofs.tracks.visits_of.Given as goal

-- it is to be found in the rest
abbrev pub invariant-loop-train : goal.invariant-loop-train
invariant-loop-train l = option_map_or (λ t. length t.visits) (find (λ t. bytes_eq t.name l.name) (map train_seen (drop l.train-index l.sheet.trains.items))) 0 ≡ visits_of (sheet_seen l.sheet) l.name
