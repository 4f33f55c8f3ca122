use Rattle.std.proofs.Common.{ap, ◌∙◌, arith}
use Rattle.bound_ticks.specs.Walks.{walks_by_number}
use Rattle.bound_ticks.proofs.Adding.{leg_total}
use Rattle.bound_ticks.proofs.stretches.stretches_of_leg.Goals as goal

pub returns : goal.returns
returns c =
    let over = c.loop-walk-test.false in
    leg_total c.args.interlocking.now.design.station c.args.interlocking.now.routes c.args.leg.now c.deref-walk-items.result.now c.loop-walk.count c.loop-walk.walk-index c.args.places c.cap.result _ (omega arith) c.loop-walk.invariant.few c.loop-walk.invariant.left (c.deref-walk-items.ensures.value ∙ (c.in_ok-walks.ensures.walks ∙ ap (walks_by_number c.args.interlocking.now.routes) c.as_slice.ensures)) c.cap.ensures c.cap-2.ensures
