use Rattle.cone_spec.specs.declared.ConeTrain.{ConeTrain}
use Rattle.cone_clause.specs.Places.{Adds, IsPlaceBeforeFree}
use Rattle.cone_clause.proofs.Adding.{OfPrefix}
use Rattle.cone_clause.proofs.numbered.NumberedCone.add_all_free.Given as goal

-- the places of the trains so far are added
abbrev pub invariant-loop-entry : goal.invariant-loop-entry
invariant-loop-entry l = Adds (OfPrefix (λ (e : ConeTrain). IsPlaceBeforeFree l.self.contention.pairs.now.pairs l.self.cone.now e.train) l.entry-items l.entry-index) l.fn.places.items l.places.items
