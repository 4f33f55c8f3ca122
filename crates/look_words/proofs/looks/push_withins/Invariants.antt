use Rattle.std.proofs.Common.{◌≡◌, ◌+◌, ◌-◌, ◌++◌, flat_map, length}
use Rattle.rail_base.specs.Numbering.{count_from, one_to}
use Rattle.rail_outside.specs.Lines.{lines_of}
use Rattle.look_words.specs.Looks.{within_looks}
use Rattle.look_words.proofs.looks.push_withins.Given as goal

-- with those that are left
abbrev pub invariant-loop-number : goal.invariant-loop-number
invariant-loop-number l = lines_of l.lines.items ++ flat_map (within_looks l.design.station) (count_from l.number (length l.design.station.withins + 1 - l.number)) ≡ lines_of l.initial.lines.items ++ flat_map (within_looks l.design.station) (one_to (length l.design.station.withins))
