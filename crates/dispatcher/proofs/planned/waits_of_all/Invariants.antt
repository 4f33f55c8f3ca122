use Rattle.dispatcher.specs.Planned.{AreKnown, AreQueues}
use Rattle.dispatcher.proofs.planned.waits_of_all.Given as goal

abbrev pub invariant-loop-number : goal.invariant-loop-number
invariant-loop-number l = record { queues : AreQueues l.planned l.number l.queues.items; known : AreKnown l.planned l.number l.waits.items }
