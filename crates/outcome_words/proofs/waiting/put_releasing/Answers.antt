use Rattle.std.proofs.Common.{refl}
use Rattle.cone_words.proofs.Joining.{first_as, more_as}
use Rattle.outcome_words.proofs.waiting.put_releasing.Goals as goal

pub returns : goal.returns
returns c =
    let old = c.args.text.now.items in
    let t1 = first_as old _ _ _ c.in_ok-extend_from_slice.ensures.items refl in
    let t2 = more_as old _ _ _ _ _ t1 c.in_ok-extend_from_slice-2.ensures.items c.train_name.ensures in
    let t3 = more_as old _ _ _ _ _ t2 c.in_ok-extend_from_slice-3.ensures.items refl in
    let t4 = more_as old _ _ _ _ _ t3 c.in_ok-extend_from_slice-4.ensures.items c.section_name.ensures in
    more_as old _ _ _ _ _ t4 c.in_ok-put_overlap_at.ensures refl
