use Rattle.std.proofs.Common.{◌≡◌, ◌+◌, ◌-◌, ◌++◌, length, map}
use Rattle.rail_base.specs.Numbering.{count_from, one_to}
use Rattle.rail_outside.specs.Lines.{lines_of}
use Rattle.asked_words.specs.Asked.{order_line}
use Rattle.asked_words.proofs.asked.push_orders.Given as goal

-- with those that are left
abbrev pub invariant-loop-number : goal.invariant-loop-number
invariant-loop-number l = lines_of l.lines.items ++ map (order_line l.design.station) (count_from l.number (length l.design.station.orders + 1 - l.number)) ≡ lines_of l.initial.lines.items ++ map (order_line l.design.station) (one_to (length l.design.station.orders))
