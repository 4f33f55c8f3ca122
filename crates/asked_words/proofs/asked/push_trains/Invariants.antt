use Rattle.std.proofs.Common.{◌≡◌, ◌+◌, ◌-◌, ◌++◌, flat_map, length, map}
use Rattle.rail_base.specs.Numbering.{count_from}
use Rattle.rail_base.specs.Stations.{trains}
use Rattle.rail_outside.specs.Lines.{lines_of}
use Rattle.asked_words.specs.Asked.{train_lines}
use Rattle.asked_words.proofs.asked.push_trains.Given as goal

-- with those that are left
abbrev pub invariant-loop-number : goal.invariant-loop-number
invariant-loop-number l = lines_of l.lines.items ++ flat_map (train_lines l.design.station) (map (λ n. record { 0 = n }) (count_from l.number (length l.design.station.trains + 1 - l.number))) ≡ lines_of l.initial.lines.items ++ flat_map (train_lines l.design.station) (trains l.design.station)
