use Rattle.std.proofs.Common.{◌≡◌, ◌+◌, ◌-◌, ◌++◌, flat_map, length}
use Rattle.rail_base.specs.Numbering.{count_from, one_to}
use Rattle.rail_outside.specs.Lines.{lines_of}
use Rattle.look_words.specs.Sections.{section_looks}
use Rattle.look_words.proofs.sections.push_slipped_sections.Given as goal

-- with those that are left
abbrev pub invariant-loop-index : goal.invariant-loop-index
invariant-loop-index l = lines_of l.lines.items ++ flat_map (section_looks l.design.station) (count_from (l.index + 1) (length l.design.station.sections + 1 - (l.index + 1))) ≡ lines_of l.initial.lines.items ++ flat_map (section_looks l.design.station) (one_to (length l.design.station.sections))
