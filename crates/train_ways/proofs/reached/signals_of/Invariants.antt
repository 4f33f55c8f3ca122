use Rattle.std.proofs.Common.{◌≡◌, [], drop}
use Rattle.train_ways.specs.Reached.{with_starts}
use Rattle.train_ways.proofs.reached.signals_of.Given as goal

abbrev pub invariant-loop-number : goal.invariant-loop-number
invariant-loop-number l = with_starts l.routes l.signals.items (drop l.number-index l.numbers) ≡ with_starts l.routes [] l.numbers
