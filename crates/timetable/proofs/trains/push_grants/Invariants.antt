use Rattle.std.proofs.Common.{◌≡◌, ◌++◌, take}
use Rattle.std.specs.List.{enumerate_from, filter_map}
use Rattle.timetable.specs.Lines.{lines_of}
use Rattle.timetable.specs.Timetable.{grant_line_of}
use Rattle.timetable.proofs.trains.push_grants.Given as goal

abbrev pub invariant-loop-index : goal.invariant-loop-index
invariant-loop-index l = lines_of l.lines.items ≡ lines_of l.initial.lines.items ++ filter_map grant_line_of (take l.index (enumerate_from 1 l.grants))
