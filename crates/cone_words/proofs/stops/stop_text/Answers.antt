use Rattle.std.proofs.Common.{refl, ap, ◌∙◌}
use Rattle.cone_words.specs.Times.{ticks_text}
use Rattle.cone_words.proofs.Joining.{then_as}
use Rattle.cone_words.proofs.stops.stop_text.Goals as goal

pub returns : goal.returns
returns c =
    let t1 = c.in_ok-text.ensures.items ∙ c.train_name.ensures in
    let t2 = then_as _ _ _ _ _ t1 c.in_ok-extend_from_slice.ensures.items refl in
    let t3 = then_as _ _ _ _ _ t2 c.in_ok-put_ticks.ensures (ap (ticks_text c.args.design.now.station) c.whole_ticks.ensures) in
    let t4 = then_as _ _ _ _ _ t3 c.in_ok-extend_from_slice-2.ensures.items refl in
    then_as _ _ _ _ _ t4 c.in_ok-put_joined_nodes.ensures refl
