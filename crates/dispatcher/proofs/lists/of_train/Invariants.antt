use Rattle.std.proofs.Common.{◌≡◌, ◌++◌, drop}
use Rattle.dispatcher.specs.Turned.{of_train}
use Rattle.dispatcher.proofs.lists.of_train.Given as goal

abbrev pub invariant-loop-wait : goal.invariant-loop-wait
invariant-loop-wait l = l.kept ++ of_train l.train (drop l.wait-index l.waits) ≡ of_train l.train l.waits
