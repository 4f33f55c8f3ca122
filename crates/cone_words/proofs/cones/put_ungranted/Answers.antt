use Rattle.std.proofs.Common.{refl, ap, decimal}
use Rattle.cone_words.proofs.Joining.{first_as, more_as}
use Rattle.cone_words.proofs.cones.put_ungranted.Goals as goal

pub returns : goal.returns
returns c =
    let old = c.args.text.now.items in
    let t1 = first_as old _ _ _ c.in_ok-extend_from_slice.ensures.items refl in
    let t2 = more_as old _ _ _ _ _ t1 c.in_ok-extend_from_slice-2.ensures.items c.train_name.ensures in
    let t3 = more_as old _ _ _ _ _ t2 c.in_ok-extend_from_slice-3.ensures.items refl in
    let t4 = more_as old _ _ _ _ _ t3 c.in_ok-put_number.ensures.ok (ap decimal c.from.ensures) in
    let t5 = more_as old _ _ _ _ _ t4 c.in_ok-extend_from_slice-4.ensures.items refl in
    more_as old _ _ _ _ _ t5 c.in_ok-put_by_horizon.ensures refl
