use Rattle.rail_base.specs.declared.route.RouteNo.{RouteNo}
use Rattle.cone_clause.specs.Places.{Adds, IsPlaceBefore}
use Rattle.cone_clause.proofs.Adding.{OfPrefix}
use Rattle.cone_clause.proofs.numbered.NumberedCone.add_free.Given as goal

-- the places before the commands so far are added
abbrev pub invariant-loop-route : goal.invariant-loop-route
invariant-loop-route l = Adds (OfPrefix (λ (r : RouteNo). IsPlaceBefore l.self.contention.pairs.now.pairs (record { train = l.train; route = r })) l.route-items l.route-index) l.fn.places.items l.places.items
