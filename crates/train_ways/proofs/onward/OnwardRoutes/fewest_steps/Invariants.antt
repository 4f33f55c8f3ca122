use Rattle.train_ways.proofs.Summing.{FewestSoFar}
use Rattle.train_ways.proofs.onward.OnwardRoutes.fewest_steps.Given as goal

abbrev pub invariant-loop-number : goal.invariant-loop-number
invariant-loop-number l = FewestSoFar l.self.interlocking.now.design.station l.self.interlocking.now.routes l.number l.most
