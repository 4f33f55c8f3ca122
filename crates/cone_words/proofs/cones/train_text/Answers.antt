use Rattle.std.proofs.Common.{refl, ap, decimal, ◌∙◌, ◌++◌}
use Rattle.cone_words.proofs.Joining.{then_as}
use Rattle.cone_words.specs.Cones.{followed_text}
use Rattle.cone_words.proofs.cones.train_text.Goals as goal

pub returns : goal.returns
returns c =
    let d = c.args.interlocking.now.design.station in
    let routes = c.args.interlocking.now.routes in
    let t1 = c.in_ok-put_followed.ensures ∙ ap (λ ys. ys ++ followed_text d routes c.args.train.now) c.new-text.ensures.items in
    let t2 = then_as _ _ _ _ _ t1 c.in_ok-extend_from_slice.ensures.items refl in
    let t3 = then_as _ _ _ _ _ t2 c.in_ok-put_number.ensures.ok (ap decimal c.from.ensures) in
    let t4 = then_as _ _ _ _ _ t3 c.in_ok-extend_from_slice-2.ensures.items refl in
    then_as _ _ _ _ _ t4 c.in_ok-put_holder.ensures refl
