use Rattle.std.proofs.Common.{refl, ap}
use Rattle.cone_words.proofs.Joining.{first_as, more_as}
use Rattle.cone_words.specs.Times.{tick_text}
use Rattle.evidence_words.proofs.bounds.End.put_horizon.Goals as goal

pub returns : goal.returns
returns c =
    let d = c.args.self.now.interlocking.now.design.station in
    let old = c.args.text.now.items in
    let t1 = first_as old _ _ _ c.in_ok-extend_from_slice.ensures.items refl in
    more_as old _ _ _ _ _ t1 c.in_ok-put_tick.ensures (ap (tick_text d) c.horizon.ensures.value)
