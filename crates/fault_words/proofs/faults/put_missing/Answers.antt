use Rattle.std.proofs.Common.{ap, refl}
use Rattle.std.proofs.Math.Facts.{to_z-of_z}
use Rattle.std.specs.Fmt.{signed_decimal}
use Rattle.fault_words.specs.Faults.{count_visits}
use Rattle.fault_words.proofs.Joining.{first_as, more_as}
use Rattle.fault_words.proofs.faults.put_missing.Goals as goal

pub returns : goal.returns
returns c =
    let old = c.args.text.now.items in
    let t1 = first_as old _ _ _ c.in_ok-put_text.ensures refl in
    let t2 = more_as old _ _ _ _ _ t1 c.in_ok-put_text-2.ensures refl in
    let t3 = more_as old _ _ _ _ _ t2 c.in_ok-put_text-3.ensures refl in
    let t4 = more_as old _ _ _ _ _ t3 c.in_ok-put_visit_count.ensures (ap count_visits c.visits_of.ensures) in
    let t5 = more_as old _ _ _ _ _ t4 c.in_ok-put_text-4.ensures refl in
    more_as old _ _ _ _ _ t5 c.in_ok-put_whole.ensures (ap signed_decimal (to_z-of_z c.ranges.visit))
