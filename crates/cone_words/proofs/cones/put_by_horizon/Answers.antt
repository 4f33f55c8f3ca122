use Rattle.std.proofs.Common.{refl, ap}
use Rattle.cone_words.proofs.Joining.{first_as, more_as}
use Rattle.cone_words.specs.Times.{tick_text}
use Rattle.cone_words.proofs.cones.put_by_horizon.Goals as goal

pub returns : goal.returns
returns c =
    let old = c.args.text.now.items in
    let t1 = first_as old _ _ _ c.in_ok-extend_from_slice.ensures.items refl in
    let t2 = more_as old _ _ _ _ _ t1 c.in_ok-put_tick.ensures (ap (tick_text c.args.design.now.station) c.horizon.ensures.value) in
    more_as old _ _ _ _ _ t2 c.in_ok-extend_from_slice-2.ensures.items refl
