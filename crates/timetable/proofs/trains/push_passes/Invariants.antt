use Rattle.std.proofs.Common.{◌≡◌, ◌++◌, take}
use Rattle.std.specs.List.{filter_map}
use Rattle.timetable.specs.Lines.{lines_of}
use Rattle.timetable.specs.Timetable.{pass_line_of}
use Rattle.timetable.proofs.trains.push_passes.Given as goal

abbrev pub invariant-loop-node : goal.invariant-loop-node
invariant-loop-node l = lines_of l.lines.items ≡ lines_of l.initial.lines.items ++ filter_map (pass_line_of l.design.station) (take l.node-index l.passes)
