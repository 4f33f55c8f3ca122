use Rattle.std.proofs.Common.{map, take}
use Rattle.rail_text.specs.Added.{AddsLines}
use Rattle.design_text.proofs.lines.push_entries.Given as goal

abbrev pub invariant-loop-entry : goal.invariant-loop-entry
invariant-loop-entry g l = AddsLines l.initial.lines l.lines (map (g.E.Entry.line_of l.design.station) (take l.entry-index l.entries))
