use Rattle.std.proofs.Common.{◌≡◌, ◌+◌, ◌-◌, ◌++◌, flat_map, length}
use Rattle.rail_base.specs.Numbering.{count_from, one_to}
use Rattle.rail_outside.specs.Lines.{lines_of}
use Rattle.look_words.specs.Entries.{open_entry}
use Rattle.look_words.proofs.entries.push_open_entries.Given as goal

-- with those that are left
abbrev pub invariant-loop-number : goal.invariant-loop-number
invariant-loop-number l = lines_of l.lines.items ++ flat_map (open_entry l.interlocking.design.station l.interlocking.routes) (count_from l.number (length l.interlocking.design.station.nodes + 1 - l.number)) ≡ lines_of l.initial.lines.items ++ flat_map (open_entry l.interlocking.design.station l.interlocking.routes) (one_to (length l.interlocking.design.station.nodes))
