use Rattle.std.proofs.Common.{◌≡◌, ◌&&◌, bytes_eq, drop, map, []}
use Rattle.std.specs.List.{find}
use Rattle.std.specs.Option.{option_map_or}
use Rattle.design_table.specs.Parsed.{signal_seen, sheet_seen}
use Rattle.fault_words.specs.Tracks.{is_side, signal_beside}
use Rattle.fault_words.proofs.tracks.signal_beside.Given as goal

-- it is to be found in the rest
abbrev pub invariant-loop-signal : goal.invariant-loop-signal
invariant-loop-signal l = option_map_or (λ q. q.name) (find (λ q. bytes_eq q.node l.node && is_side q.toward l.side) (map signal_seen (drop l.signal-index l.sheet.signals.items))) [] ≡ signal_beside (sheet_seen l.sheet) l.node l.side
