use Rattle.std.proofs.Common.{refl}
use Rattle.cone_words.proofs.Joining.{first_as, more}
use Rattle.evidence_words.proofs.Each.{unused_is}
use Rattle.evidence_words.proofs.places.put_unused.Goals as goal

pub returns-in_ok-put_any_route-in-len1-up : goal.returns-in_ok-put_any_route-in-len1-up
returns-in_ok-put_any_route-in-len1-up c =
    let i = c.args.interlocking.now in
    let old = c.args.text.now.items in
    let t1 = first_as old _ _ _ c.in_ok-extend_from_slice-in-len1-up.ensures.items refl in
    first_as old _ _ _ (more old _ _ _ _ t1 c.in_ok-put_any_route-in-len1-up.ensures) (unused_is i.design.station i.routes c.args.routes.now c.in-len1-up.len_at_least)
