use Rattle.std.proofs.Common.{◌≡◌, ◌+◌, ◌-◌, ◌++◌, length, map}
use Rattle.rail_base.specs.Numbering.{count_from}
use Rattle.rail_base.specs.Stations.{train_of}
use Rattle.rail_outside.specs.Lines.{lines_of}
use Rattle.asked_words.specs.Asked.{train_lines, visit_line}
use Rattle.asked_words.proofs.asked.push_train.Given as goal

-- with those that are left
abbrev pub invariant-loop-visit : goal.invariant-loop-visit
invariant-loop-visit l = lines_of l.lines.items ++ map (visit_line l.design.station l.train) (count_from l.visit (length (train_of l.design.station l.train).visits + 1 - l.visit)) ≡ lines_of l.fn.lines.items ++ train_lines l.design.station l.train
