use Rattle.std.proofs.Common.{◌≡◌, ◌++◌, take}
use Rattle.std.specs.List.{enumerate_from, filter_map}
use Rattle.rail_outside.specs.Lines.{lines_of}
use Rattle.outcome_words.specs.Runs.{of_shown}
use Rattle.outcome_words.specs.Waits.{wait_line}
use Rattle.outcome_words.proofs.waiting.push_waits.Given as goal

abbrev pub invariant-loop-index : goal.invariant-loop-index
invariant-loop-index l = lines_of l.lines.items ≡ lines_of l.initial.lines.items ++ filter_map (of_shown l.run wait_line l.train l.history) (take l.index (enumerate_from 1 l.grant-items))
