use Rattle.train_ways.specs.Reached.{IsMostMade}
use Rattle.train_ways.proofs.reached.most_made.Given as goal

abbrev pub invariant-loop-pair : goal.invariant-loop-pair
invariant-loop-pair l = IsMostMade l.made l.found l.pair l.most
