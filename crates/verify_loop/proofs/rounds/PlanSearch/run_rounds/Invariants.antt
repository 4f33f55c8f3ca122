use Rattle.std.proofs.Common.{◌+◌, ◌-◌}
use Rattle.verify_loop.specs.Asking.{IsSearch, TellsHowFar}
use Rattle.verify_loop.proofs.rounds.PlanSearch.run_rounds.Given as goal

abbrev pub invariant-rounds : goal.invariant-rounds
invariant-rounds g l = record {
  search : IsSearch l.self l.search;
  told : TellsHowFar l.self (g.P.Sink.puts l.initial.progress) (g.P.Sink.puts l.progress);
}

abbrev pub decreases-rounds : goal.decreases-rounds
decreases-rounds g l = l.self.budgets.conflicts + l.self.budgets.ticks + l.self.numbering.now.steps - (l.search.solver.derives + l.search.sum + l.search.steps)
