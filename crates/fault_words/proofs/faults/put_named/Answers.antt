use Rattle.std.proofs.Common.{refl}
use Rattle.fault_words.proofs.Joining.{first_as, more_as}
use Rattle.fault_words.proofs.faults.put_named.Goals as goal

pub returns : goal.returns
returns c =
    let old = c.args.text.now.items in
    let t1 = first_as old _ _ _ c.in_ok-put_text.ensures refl in
    let t2 = more_as old _ _ _ _ _ t1 c.in_ok-put_text-2.ensures c.text_at.ensures in
    let t3 = more_as old _ _ _ _ _ t2 c.in_ok-put_text-3.ensures refl in
    more_as old _ _ _ _ _ t3 c.in_ok-put_first.ensures refl
