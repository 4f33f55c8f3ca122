use Rattle.train_ways.proofs.Summing.{SumSoFar}
use Rattle.train_ways.proofs.onward.OnwardRoutes.most_steps.Given as goal

abbrev pub invariant-loop-number : goal.invariant-loop-number
invariant-loop-number l = SumSoFar l.self.interlocking.now.design.station l.self.interlocking.now.routes l.number l.most
