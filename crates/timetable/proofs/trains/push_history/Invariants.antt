use Rattle.std.proofs.Common.{◌≡◌, ◌++◌, take}
use Rattle.std.specs.List.{enumerate_from, flat_map}
use Rattle.timetable.specs.Lines.{lines_of}
use Rattle.timetable.specs.Timetable.{train_lines}
use Rattle.timetable.proofs.trains.push_history.Given as goal

abbrev pub invariant-loop-index : goal.invariant-loop-index
invariant-loop-index l = lines_of l.lines.items ≡ lines_of l.initial.lines.items ++ flat_map (λ train. train_lines l.design.station (record { 0 = train.0 }) train.1) (take l.index (enumerate_from 1 l.history))
