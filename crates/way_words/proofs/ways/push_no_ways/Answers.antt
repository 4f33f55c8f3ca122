use Rattle.std.proofs.Common.{arith}
use Rattle.way_words.proofs.Gathering.{all_so_far, none_yet, one_more, unmade_of}
use Rattle.way_words.proofs.ways.push_no_ways.Goals as goal

pub loop-number-init : goal.loop-number-init
loop-number-init c = none_yet _ _ _

pub loop-number-preserved : goal.loop-number-preserved
loop-number-preserved c =
    let i = c.args.ways.now.interlocking.now in
    one_more i.design.station i.routes _ c.loop-number.number _ _ _ c.loop-number.auto.number
    (unmade_of i.design.station i.routes _ _ c.in_ok-visit.ensures.none c.in_ok-visit.ensures.some) c.in_ok-push_no_way.ensures c.loop-number.invariant

pub returns : goal.returns
returns c =
    let i = c.args.ways.now.interlocking.now in
    let many = c.len-trains.ensures in
    let end = c.loop-number-test.false in
    let top = c.loop-number.auto.number-end (omega arith) in
    all_so_far i.design.station i.routes _ c.loop-number.number _ (omega arith) c.loop-number.invariant
