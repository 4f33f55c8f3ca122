use Rattle.cone_clause.specs.Places.{Adds, IsPlaceOf}
use Rattle.cone_clause.proofs.Adding.{OfPrefix}
use Rattle.rail_base.specs.declared.plan.Command.{Command}
use Rattle.cone_clause.proofs.numbered.NumberedCone.add_pairs.Given as goal

-- the places of the pairs so far are added
abbrev pub invariant-loop-pair : goal.invariant-loop-pair
invariant-loop-pair l = Adds (OfPrefix (λ (p : Command × Command). IsPlaceOf l.self.contention.pairs.now.pairs p) l.pair-items l.pair-index) l.fn.places.items l.places.items
