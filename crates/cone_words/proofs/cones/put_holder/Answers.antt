use Rattle.std.proofs.Common.{refl, ap, ◌∙◌}
use Rattle.cone_words.specs.Cones.{leave_word}
use Rattle.cone_words.proofs.Joining.{first_as, more_as}
use Rattle.cone_words.proofs.cones.put_holder.Goals as goal

pub returns-in_ok-put_route-in-Some : goal.returns-in_ok-put_route-in-Some
returns-in_ok-put_route-in-Some c =
    let old = c.args.text.now.items in
    let t1 = first_as old _ _ _ c.in_ok-extend_from_slice-in-Some.ensures.items refl in
    let t2 = more_as old _ _ _ _ _ t1 c.in_ok-extend_from_slice-in-Some-2.ensures.items c.train_name.ensures in
    let t3 = more_as old _ _ _ _ _ t2 c.in_ok-extend_from_slice-in-Some-3.ensures.items refl in
    let word = c.leave_word.ensures ∙ ap leave_word c.overlaps_of.ensures in
    let t4 = more_as old _ _ _ _ _ t3 c.in_ok-extend_from_slice-in-Some-4.ensures.items word in
    let t5 = more_as old _ _ _ _ _ t4 c.in_ok-extend_from_slice-in-Some-5.ensures.items refl in
    rw c.in-Some.is (more_as old _ _ _ _ _ t5 c.in_ok-put_route-in-Some.ensures refl)
