use Rattle.std.proofs.Common.{◌≡◌, ◌+◌, ◌-◌, ◌++◌, length, map}
use Rattle.rail_base.specs.Numbering.{count_from, one_to}
use Rattle.rail_outside.specs.Lines.{lines_of}
use Rattle.outcome_words.specs.Requirements.{within_line}
use Rattle.outcome_words.proofs.requirements.push_withins.Given as goal

-- with those that are left
abbrev pub invariant-loop-number : goal.invariant-loop-number
invariant-loop-number l =
    let d = l.design.station in
    lines_of l.lines.items ++ map (within_line d l.history l.last) (count_from l.number (length d.withins + 1 - l.number)) ≡ lines_of l.initial.lines.items ++ map (within_line d l.history l.last) (one_to (length d.withins))
