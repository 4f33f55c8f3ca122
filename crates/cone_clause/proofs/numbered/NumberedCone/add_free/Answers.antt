use Rattle.std.proofs.Common.{ℕ, List, subst}
use Rattle.rail_base.specs.declared.route.RouteNo.{RouteNo}
use Rattle.rail_base.proofs.Members.{In}
use Rattle.cone_clause.specs.Places.{Adds, IsPlaceBefore}
use Rattle.cone_clause.proofs.Adding.{adds_none, adds_more, adds_all}
use Rattle.cone_clause.proofs.numbered.NumberedCone.add_free.Goals as goal

pub loop-route-init : goal.loop-route-init
loop-route-init c = adds_none (λ (r : RouteNo). IsPlaceBefore c.args.self.now.contention.pairs.now.pairs (record { train = c.args.train; route = r })) c.free_path-route-items.result.now _

pub loop-route-preserved : goal.loop-route-preserved
loop-route-preserved c = adds_more (λ (r : RouteNo). IsPlaceBefore c.args.self.now.contention.pairs.now.pairs (record { train = c.args.train; route = r })) _ c.loop-route.route-index _ _ _ _ c.loop-route-test.true c.loop-route.invariant c.in_ok-add_before.ensures

pub returns : goal.returns
returns c =
    let before : RouteNo → ℕ → Type 0 = λ r. IsPlaceBefore c.args.self.now.contention.pairs.now.pairs (record { train = c.args.train; route = r }) in
    subst (λ (rs : List RouteNo). Adds (λ i. (r : RouteNo) × In r rs × before r i) c.args.places.now.items c.loop-route.places.items) c.free_path-route-items.ensures
    (adds_all before _ c.loop-route.route-index _ _ c.loop-route-test.false c.loop-route.invariant)
