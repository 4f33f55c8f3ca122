use Rattle.std.proofs.Common.{ap, refl}
use Rattle.std.proofs.Math.Facts.{to_z-of_z}
use Rattle.std.specs.Fmt.{signed_decimal}
use Rattle.fault_words.proofs.Joining.{first_as, more_as}
use Rattle.fault_words.proofs.limits.put_long.Goals as goal

pub returns : goal.returns
returns c =
    let old = c.args.text.now.items in
    let t1 = first_as old _ _ _ c.in_ok-put_text.ensures refl in
    let t2 = more_as old _ _ _ _ _ t1 c.in_ok-put_whole.ensures (ap signed_decimal (to_z-of_z c.ranges.dwell_ms)) in
    more_as old _ _ _ _ _ t2 c.in_ok-put_allowed.ensures refl
