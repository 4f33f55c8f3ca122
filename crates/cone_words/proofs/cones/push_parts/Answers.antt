use Rattle.std.proofs.Common.{List, ap}
use Rattle.cone_spec.specs.declared.ConeTrain.{ConeTrain}
use Rattle.rail_outside.specs.Lines.{lines_of}
use Rattle.cone_words.specs.Cones.{trains_sentences}
use Rattle.cone_words.proofs.Joining.{first_as, more}
use Rattle.cone_words.proofs.cones.push_parts.Goals as goal

pub returns : goal.returns
returns c =
    let d = c.args.interlocking.now.design.station in
    let routes = c.args.interlocking.now.routes in
    let n = c.args.line in
    let old = lines_of c.args.lines.now.items in
    let t1 = first_as old _ _ _ c.in_ok-push_trains.ensures (ap (λ (ts : List ConeTrain). trains_sentences d routes n c.args.cone.now ts) c.as_slice.ensures) in
    more old _ _ _ _ t1 c.in_ok-push_order.ensures
