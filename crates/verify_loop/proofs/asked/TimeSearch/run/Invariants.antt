use Rattle.std.proofs.Common.{◌≡◌}
use Rattle.verify_loop.specs.Lessening.{IsTimeSearch, TellsLess, base_station}
use Rattle.verify_loop.proofs.asked.TimeSearch.run.Given as goal

-- the question is one for less time for the same within
abbrev pub invariant-times : goal.invariant-times
invariant-times g l = record {
  search : IsTimeSearch l.self l.asked l.search;
  same : base_station l.self l.asked ≡ base_station l.self l.initial.asked;
  told : TellsLess l.self l.initial.asked (g.P.Sink.puts l.initial.progress) (g.P.Sink.puts l.progress);
}

abbrev pub decreases-times : goal.decreases-times
decreases-times g l = l.asked.ticks
