use Rattle.std.proofs.Common.{◌≡◌, ◌+◌, ◌-◌, ◌++◌, flat_map, length, map}
use Rattle.rail_base.specs.Numbering.{count_from}
use Rattle.rail_base.specs.Stations.{trains}
use Rattle.rail_outside.specs.Lines.{lines_of}
use Rattle.outcome_words.specs.Runs.{of_shown}
use Rattle.outcome_words.specs.Stands.{train_lines}
use Rattle.outcome_words.proofs.waiting.push_trains.Given as goal

-- with those that are left
abbrev pub invariant-loop-number : goal.invariant-loop-number
invariant-loop-number l =
    let d = l.run.interlocking.now.design.station in
    lines_of l.lines.items ++ flat_map (of_shown l.run train_lines) (map (λ n. record { 0 = n }) (count_from l.number (length d.trains + 1 - l.number))) ≡ lines_of l.initial.lines.items ++ flat_map (of_shown l.run train_lines) (trains d)
