use Rattle.std.proofs.Common.{codes}
use Rattle.evidence_words.specs.Bounds.{place_text}
use Rattle.evidence_words.proofs.Each.{each_more}
use Rattle.evidence_words.proofs.places.put_each_place.Goals as goal

pub loop-place-preserved : goal.loop-place-preserved
loop-place-preserved c =
    let i = c.args.interlocking.now in
    each_more (codes ", then ") (place_text i.design.station i.routes) c.args.places.now c.loop-place.place-index c.place-item.result _ _ _ _ c.loop-place-test.true c.place-item.is c.loop-place.invariant c.in_ok-extend_from_slice.ensures.items c.in_ok-put_place.ensures
