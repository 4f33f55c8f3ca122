use Rattle.std.proofs.Common.{refl}
use Rattle.cone_words.proofs.Joining.{first_as, more_as}
use Rattle.evidence_words.proofs.bounds.End.put_since.Goals as goal

pub returns-in_ok-put_tick-in-None : goal.returns-in_ok-put_tick-in-None
returns-in_ok-put_tick-in-None c =
    let old = c.args.text.now.items in
    let t1 = first_as old _ _ _ c.in_ok-extend_from_slice-in-None.ensures.items refl in
    rw c.in-None.is (more_as old _ _ _ _ _ t1 c.in_ok-put_tick-in-None.ensures refl)
