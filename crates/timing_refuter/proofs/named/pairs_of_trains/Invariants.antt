use Rattle.std.proofs.Common.{◌≡◌, ◌++◌, drop, flat_map}
use Rattle.timing_refuter.specs.declared.named.Named.{Named}
use Rattle.timing_refuter.specs.Named.{pairs_from, pairs_of_trains}
use Rattle.timing_refuter.proofs.named.pairs_of_trains.Given as goal

abbrev pub invariant-loop-first : goal.invariant-loop-first
invariant-loop-first l =
    l.pairs.items ++ flat_map (λ (e : Named). pairs_from l.interlocking.routes l.plan.steps l.named e.command) (drop l.first-index l.named)
    ≡ pairs_of_trains l.interlocking.routes l.plan.steps l.named
