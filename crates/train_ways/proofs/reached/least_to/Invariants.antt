use Rattle.train_ways.specs.Reached.{IsLeastTo}
use Rattle.train_ways.proofs.reached.least_to.Given as goal

abbrev pub invariant-loop-pair : goal.invariant-loop-pair
invariant-loop-pair l = IsLeastTo l.made l.found l.all l.pair l.least
