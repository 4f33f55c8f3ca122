use Rattle.std.proofs.Common.{refl, ap}
use Rattle.cone_words.proofs.Joining.{first_as, more_as}
use Rattle.cone_words.specs.Routes.{path_text}
use Rattle.cone_words.proofs.cones.put_followed.Goals as goal

pub returns : goal.returns
returns c =
    let i = c.args.interlocking.now in
    let old = c.args.text.now.items in
    let t1 = first_as old _ _ _ c.in_ok-extend_from_slice.ensures.items c.train_name.ensures in
    let t2 = more_as old _ _ _ _ _ t1 c.in_ok-extend_from_slice-2.ensures.items refl in
    let t3 = more_as old _ _ _ _ _ t2 c.in_ok-put_tick.ensures refl in
    let t4 = more_as old _ _ _ _ _ t3 c.in_ok-extend_from_slice-3.ensures.items refl in
    more_as old _ _ _ _ _ t4 c.in_ok-put_path.ensures (ap (path_text i.design.station i.routes) c.as_slice.ensures)
