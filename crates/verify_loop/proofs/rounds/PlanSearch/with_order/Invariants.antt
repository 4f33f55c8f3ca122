use Rattle.std.proofs.Common.{take}
use Rattle.verify_loop.specs.Asking.{IsBeginning, said_to}
use Rattle.verify_loop.proofs.rounds.PlanSearch.with_order.Given as goal

-- what the order says of the pairs so far is there
abbrev pub invariant-loop-place : goal.invariant-loop-place
invariant-loop-place l = IsBeginning l.self l.search (said_to l.self l.order (take l.place l.pairs))
