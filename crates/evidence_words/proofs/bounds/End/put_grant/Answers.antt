use Rattle.std.proofs.Common.{refl}
use Rattle.cone_words.proofs.Joining.{first_as, more_as}
use Rattle.evidence_words.proofs.bounds.End.put_grant.Goals as goal

pub returns : goal.returns
returns c =
    let d = c.args.self.now.interlocking.now.design.station in
    let old = c.args.text.now.items in
    let t1 = first_as old _ _ _ c.in_ok-extend_from_slice.ensures.items refl in
    let t2 = more_as old _ _ _ _ _ t1 c.in_ok-extend_from_slice-2.ensures.items c.train_name.ensures in
    let t3 = more_as old _ _ _ _ _ t2 c.in_ok-extend_from_slice-3.ensures.items refl in
    let t4 = more_as old _ _ _ _ _ t3 c.in_ok-put_route.ensures refl in
    let t5 = more_as old _ _ _ _ _ t4 c.in_ok-extend_from_slice-4.ensures.items refl in
    let t6 = more_as old _ _ _ _ _ t5 c.in_ok-put_moment.ensures refl in
    more_as old _ _ _ _ _ t6 c.in_ok-put_horizon.ensures refl
