use Rattle.std.proofs.Common.{refl, ap, decimal}
use Rattle.cone_words.proofs.Joining.{first_as, more_as}
use Rattle.rail_base.specs.declared.station.Order.{Order}
use Rattle.leg_targets.specs.Visits.{origin_of}
use Rattle.evidence_words.specs.Bounds.{arrives_text}
use Rattle.cone_words.specs.Names.{makes_text}
use Rattle.evidence_words.proofs.bounds.End.put_order.Goals as goal

pub returns : goal.returns
returns c =
    let s = c.args.self.now in
    let d = s.interlocking.now.design.station in
    let old = c.args.text.now.items in
    let t1 = first_as old _ _ _ c.in_ok-put_arrives.ensures (ap (λ (o : Order). arrives_text d (origin_of s.after) s.tick o.first_train o.first_visit) c.order_of-order.ensures) in
    let t2 = more_as old _ _ _ _ _ t1 c.in_ok-extend_from_slice.ensures.items refl in
    let t3 = more_as old _ _ _ _ _ t2 c.in_ok-put_number.ensures.ok (ap decimal c.from.ensures) in
    let t4 = more_as old _ _ _ _ _ t3 c.in_ok-extend_from_slice-2.ensures.items refl in
    more_as old _ _ _ _ _ t4 c.in_ok-put_makes.ensures (ap (λ (o : Order). makes_text d o.then_train o.then_visit) c.order_of-order.ensures)
