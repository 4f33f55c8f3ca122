use Rattle.std.proofs.Common.{refl, ap, ◌∙◌}
use Rattle.cone_words.proofs.Joining.{then_as}
use Rattle.outcome_words.specs.Visits.{time_text}
use Rattle.outcome_words.proofs.stands.stand_text.Goals as goal

pub returns : goal.returns
returns c =
    let t1 = c.in_ok-line.ensures.items ∙ c.train_name.ensures in
    let t2 = then_as _ _ _ _ _ t1 c.in_ok-extend_from_slice.ensures.items refl in
    let t3 = then_as _ _ _ _ _ t2 c.in_ok-extend_from_slice-2.ensures.items c.node_name.ensures in
    let t4 = then_as _ _ _ _ _ t3 c.in_ok-extend_from_slice-3.ensures.items refl in
    let t5 = then_as _ _ _ _ _ t4 c.in_ok-put_time.ensures refl in
    let t6 = then_as _ _ _ _ _ t5 c.in_ok-extend_from_slice-4.ensures.items refl in
    let t7 = then_as _ _ _ _ _ t6 c.in_ok-put_time-2.ensures (ap (time_text c.args.design.now.station) c.saturating_sub.ensures) in
    let t8 = then_as _ _ _ _ _ t7 c.in_ok-put_end.ensures refl in
    then_as _ _ _ _ _ t8 c.in_ok-push.ensures.items refl
