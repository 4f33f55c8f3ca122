use Rattle.std.proofs.Common.{◌≤◌}
use Rattle.verify_loop.specs.Asking.{IsBeginning, said_before}
use Rattle.verify_loop.proofs.rounds.PlanSearch.with_all_orders.Given as goal

-- what the orders so far say is there
abbrev pub invariant-loop-order : goal.invariant-loop-order
invariant-loop-order l = record {
  some : 1 ≤ l.order;
  begun : IsBeginning l.self l.search (said_before l.self l.order);
}
