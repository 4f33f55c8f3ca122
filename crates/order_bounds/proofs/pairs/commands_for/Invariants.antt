use Rattle.std.proofs.Common.{◌≡◌, filter, take}
use Rattle.order_bounds.specs.Asked.{makes_it}
use Rattle.order_bounds.proofs.pairs.commands_for.Given as goal

-- those so far with which the visit can be made are found
abbrev pub invariant-loop-command : goal.invariant-loop-command
invariant-loop-command l = l.found.items ≡ filter (makes_it l.contention.interlocking.now.routes l.train l.visit.number l.visit.list.now) (take l.command-index l.command-items)
