use Rattle.std.proofs.Common.{◌+◌, length}
use Rattle.graph_steps.proofs.Marking.{unfound}
use Rattle.graph_steps.proofs.Searching.{Searched}
use Rattle.graph_steps.proofs.steps.least_steps.Given as goal

abbrev pub invariant-loop-alloc : goal.invariant-loop-alloc
invariant-loop-alloc l = Searched l.graph l.starts l.steps (record { found = l.found.items; front = l.front.items })

abbrev pub decreases-loop-alloc : goal.decreases-loop-alloc
decreases-loop-alloc l = unfound l.found.items + length l.front.items
