use Rattle.std.proofs.Common.{ap, ◌∙◌, arith}
use Rattle.bound_ticks.specs.Chains.{to_release}
use Rattle.leg_targets.specs.Visits.{origin_of}
use Rattle.bound_ticks.specs.Walks.{walks_by_number}
use Rattle.bound_ticks.proofs.Least.{walk_step, walk_total}
use Rattle.bound_ticks.proofs.legs.Ride.leg_to_release.Goals as goal

pub loop-walk-preserved : goal.loop-walk-preserved
loop-walk-preserved c =
    let p = c.args.self.now in
    let i = p.interlocking.now in
    let f = to_release i.design.station i.routes p.most (origin_of p.from) p.leg.now.train c.args.next.now in
    walk_step f i.routes c.deref-walk-items.result.now c.loop-walk.walk-index c.walk-item.result c.as_slice-in-loop-walk.result.now c.loop-walk.least c.min-least.result _ _ c.loop-walk-test.true c.walk-item.is c.as_slice-in-loop-walk.ensures c.in_ok-to_release.ensures c.min-least.ensures c.loop-walk.invariant

pub returns : goal.returns
returns c =
    let p = c.args.self.now in
    let i = p.interlocking.now in
    let f = to_release i.design.station i.routes p.most (origin_of p.from) p.leg.now.train c.args.next.now in
    let over = c.loop-walk-test.false in
    walk_total f i.routes c.deref-walk-items.result.now c.loop-walk.walk-index p.leg.now p.most c.loop-walk.least (omega arith) c.loop-walk.invariant (c.deref-walk-items.ensures.value ∙ (c.in_ok-walks.ensures.walks ∙ ap (walks_by_number i.routes) c.as_slice.ensures))
