use Rattle.std.proofs.Common.{◌≡◌, ◌++◌, length, take}
use Rattle.std.specs.List.{enumerate_from, filter_map, zip}
use Rattle.timetable.specs.Lines.{lines_of}
use Rattle.timetable.specs.Timetable.{dwell_line_of}
use Rattle.timetable.proofs.trains.push_dwells.Given as goal

abbrev pub invariant-loop-index : goal.invariant-loop-index
invariant-loop-index l = lines_of l.lines.items ≡ lines_of l.initial.lines.items ++ filter_map (dwell_line_of l.design.station) (take (length l.yielded) (enumerate_from 1 (zip l.visits l.dwells)))
