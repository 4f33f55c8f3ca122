use Rattle.std.proofs.Common.{refl}
use Rattle.cone_words.proofs.Joining.{first_as, more_as}
use Rattle.evidence_words.proofs.bounds.put_origin_of_visit.Goals as goal

pub returns-in_ok-put_made-in-Visit : goal.returns-in_ok-put_made-in-Visit
returns-in_ok-put_made-in-Visit c =
    let old = c.args.text.now.items in
    let t1 = first_as old _ _ _ c.in_ok-extend_from_slice-in-Visit.ensures.items refl in
    rw c.in-Visit.is (more_as old _ _ _ _ _ t1 c.in_ok-put_made-in-Visit.ensures refl)
