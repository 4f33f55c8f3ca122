use Rattle.std.proofs.Common.{ap, decimal, refl}
use Rattle.fault_words.proofs.Joining.{first_as, more_as}
use Rattle.fault_words.proofs.faults.put_first.Goals as goal

pub returns : goal.returns
returns c =
    let old = c.args.text.now.items in
    let t1 = first_as old _ _ _ c.in_ok-put_kind.ensures refl in
    let t2 = more_as old _ _ _ _ _ t1 c.in_ok-put_text.ensures refl in
    more_as old _ _ _ _ _ t2 c.in_ok-put_number.ensures.ok (ap decimal c.in_ok-first_number.ensures)
