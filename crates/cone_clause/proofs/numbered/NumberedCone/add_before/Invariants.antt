use Rattle.cone_clause.specs.Places.{Adds, IsPlaceOf}
use Rattle.cone_clause.proofs.Adding.{OfPrefix}
use Rattle.rail_base.specs.declared.plan.Command.{Command}
use Rattle.cone_clause.proofs.numbered.NumberedCone.add_before.Given as goal

-- the places of the pairs so far are added
abbrev pub invariant-loop-other : goal.invariant-loop-other
invariant-loop-other l = Adds (OfPrefix (λ (e : Command). IsPlaceOf l.self.contention.pairs.now.pairs (e, l.command)) l.other-items l.other-index) l.fn.places.items l.places.items
