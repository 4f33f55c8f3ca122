use Rattle.std.proofs.Common.{refl, ◌∙◌}
use Rattle.cone_words.proofs.Joining.{then_as}
use Rattle.cone_words.proofs.cones.pair_text.Goals as goal

pub returns : goal.returns
returns c =
    let t1 = c.in_ok-text.ensures.items ∙ c.train_name.ensures in
    let t2 = then_as _ _ _ _ _ t1 c.in_ok-extend_from_slice.ensures.items refl in
    let t3 = then_as _ _ _ _ _ t2 c.in_ok-put_route.ensures refl in
    let t4 = then_as _ _ _ _ _ t3 c.in_ok-extend_from_slice-2.ensures.items refl in
    let t5 = then_as _ _ _ _ _ t4 c.in_ok-extend_from_slice-3.ensures.items c.train_name-2.ensures in
    let t6 = then_as _ _ _ _ _ t5 c.in_ok-extend_from_slice-4.ensures.items refl in
    let t7 = then_as _ _ _ _ _ t6 c.in_ok-put_route-2.ensures refl in
    let t8 = then_as _ _ _ _ _ t7 c.in_ok-extend_from_slice-5.ensures.items refl in
    then_as _ _ _ _ _ t8 c.in_ok-put_cleared.ensures refl
