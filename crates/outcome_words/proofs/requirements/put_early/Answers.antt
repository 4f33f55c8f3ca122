use Rattle.std.proofs.Common.{refl}
use Rattle.cone_words.proofs.Joining.{first_as, more_as}
use Rattle.outcome_words.proofs.requirements.put_early.Goals as goal

pub returns : goal.returns
returns c =
    let old = c.args.text.now.items in
    let t1 = first_as old _ _ _ c.in_ok-put_time.ensures refl in
    more_as old _ _ _ _ _ t1 c.in_ok-extend_from_slice.ensures.items refl
