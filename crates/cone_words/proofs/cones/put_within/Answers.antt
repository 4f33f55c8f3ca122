use Rattle.std.proofs.Common.{refl, ap, ◌∙◌, decimal}
use Rattle.cone_words.proofs.Joining.{first_as, more_as}
use Rattle.rail_base.specs.declared.station.Within.{Within}
use Rattle.cone_words.specs.Names.{makes_text}
use Rattle.cone_words.specs.Cones.{missed_text}
use Rattle.rail_spec.specs.Requirements.{most_ticks}
use Rattle.cone_words.specs.Times.{ticks_text}
use Rattle.cone_words.proofs.cones.put_within.Goals as goal

pub returns : goal.returns
returns c =
    let d = c.args.interlocking.now.design.station in
    let old = c.args.text.now.items in
    let t1 = first_as old _ _ _ c.in_ok-put_missed.ensures (ap (λ (w : Within). missed_text d w.to_train w.to_visit) c.within_of-within.ensures) in
    let t2 = more_as old _ _ _ _ _ t1 c.in_ok-extend_from_slice.ensures.items refl in
    let t3 = more_as old _ _ _ _ _ t2 c.in_ok-put_ticks.ensures (ap (ticks_text d) (c.most_ticks.ensures ∙ ap (most_ticks d) c.within_of-within.ensures)) in
    let t4 = more_as old _ _ _ _ _ t3 c.in_ok-extend_from_slice-2.ensures.items refl in
    let t5 = more_as old _ _ _ _ _ t4 c.in_ok-put_makes.ensures (ap (λ (w : Within). makes_text d w.from_train w.from_visit) c.within_of-within.ensures) in
    let t6 = more_as old _ _ _ _ _ t5 c.in_ok-extend_from_slice-3.ensures.items refl in
    let t7 = more_as old _ _ _ _ _ t6 c.in_ok-put_number.ensures.ok (ap decimal c.from.ensures) in
    more_as old _ _ _ _ _ t7 c.in_ok-extend_from_slice-4.ensures.items refl
