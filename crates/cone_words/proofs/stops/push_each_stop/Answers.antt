use Rattle.std.proofs.Common.{◌++◌, ◌∙◌, List, ap, flat_map, length, sym, arith}
use Rattle.std.specs.List.{zip}
use Rattle.std.proofs.lemmas.Iterator.{YieldsList-from_slice, YieldsList-from_zip}
use Rattle.std.proofs.lemmas.Iterator.Consumers.{YieldsList-at, YieldsList-turn, YieldsList-end}
use Rattle.std.proofs.lemmas.List.{length_push, take_all}
use Rattle.rail_base.specs.declared.station.NodeNo.{NodeNo}
use Rattle.rail_outside.specs.Lines.{lines_of}
use Rattle.interlocking.specs.Plans.{on}
use Rattle.cone_words.specs.Stops.{stop_sentences_of}
use Rattle.cone_words.proofs.Joining.{one_told}
use Rattle.cone_words.proofs.stops.push_each_stop.Goals as goal

pub loop-nodes-preserved : goal.loop-nodes-preserved
loop-nodes-preserved c =
    let pairs = zip c.args.visits.now c.args.dwell_ms.now in
    let tell = on c.args.interlocking.now stop_sentences_of c.args.line c.args.train.now in
    let xs = c.loop-nodes.yielded in
    let nodes = c.in-Some.nodes.now in
    let ms = c.in-Some.ms.now in
    let road = YieldsList-at c.into_iter-nodes-iterator.ensures.into_iter_gives (YieldsList-from_zip (YieldsList-at c.zip-nodes-items.ensures.first (YieldsList-from_slice c.args.visits.now c.iter.ensures.rest))
    (YieldsList-from_slice c.args.dwell_ms.now c.zip-nodes-items.ensures.second.0)) in
    let turn = YieldsList-turn road xs c.loop-nodes.nodes-iterator c.loop-nodes.yielded_by c.next.result c.next.new.self (c.in-Some.nodes, c.in-Some.ms) c.in-Some.is c.next.ensures.steps in
    let then = c.in_ok-push_stop.ensures ∙ ap (λ (ns : List NodeNo). lines_of c.loop-nodes.lines.items ++ tell (ns, ms)) c.as_slice.ensures in
    rw (length_push xs (c.in-Some.nodes, c.in-Some.ms)) (one_told tell pairs (length xs) (nodes, ms) turn.0 (sym turn.1) (lines_of c.args.lines.now.items) (lines_of c.loop-nodes.lines.items) _ c.loop-nodes.invariant then)

pub returns : goal.returns
returns c =
    let pairs = zip c.args.visits.now c.args.dwell_ms.now in
    let tell = on c.args.interlocking.now stop_sentences_of c.args.line c.args.train.now in
    let xs = c.loop-nodes.yielded in
    let road = YieldsList-at c.into_iter-nodes-iterator.ensures.into_iter_gives (YieldsList-from_zip (YieldsList-at c.zip-nodes-items.ensures.first (YieldsList-from_slice c.args.visits.now c.iter.ensures.rest))
    (YieldsList-from_slice c.args.dwell_ms.now c.zip-nodes-items.ensures.second.0)) in
    let end = YieldsList-end road xs c.loop-nodes.nodes-iterator c.loop-nodes.yielded_by c.next.result c.next.new.self c.in-None.is c.next.ensures.steps in
    c.loop-nodes.invariant ∙ ap (λ ps. lines_of c.args.lines.now.items ++ flat_map tell ps) (take_all (length xs) pairs (omega (arith, end.1)))
