use Rattle.std.proofs.Common.{ap, ◌∙◌, arith}
use Rattle.bound_ticks.specs.Ahead.{ahead_on}
use Rattle.bound_ticks.specs.Walks.{walks_by_number}
use Rattle.bound_ticks.proofs.Aheads.{all_ahead, all_pass, one_fails}
use Rattle.bound_ticks.proofs.ahead.Between.ahead_on_all.Goals as goal

pub returns-then-not-ahead_on : goal.returns-then-not-ahead_on
returns-then-not-ahead_on c =
    let b = c.args.self.now in
    let f = ahead_on b c.args.leg.now c.args.rest.now in
    one_fails f c.deref-walk-items.result.now c.loop-walk.walk-index c.walk-item.result c.as_slice-in-loop-walk.result.now c.ahead_on.result _ c.loop-walk-test.true c.walk-item.is c.as_slice-in-loop-walk.ensures c.ahead_on.ensures c.if-not-ahead_on.true c.loop-walk.invariant
    ∙ all_ahead b c.args.leg.now c.args.rest.now c.deref-walk-items.result.now (c.deref-walk-items.ensures.value ∙ (c.in_ok-walks.ensures.walks ∙ ap (walks_by_number b.interlocking.now.routes) c.as_slice.ensures))

pub returns : goal.returns
returns c =
    let b = c.args.self.now in
    let f = ahead_on b c.args.leg.now c.args.rest.now in
    let over = c.loop-walk-test.false in
    all_pass f c.deref-walk-items.result.now c.loop-walk.walk-index _ (omega arith) c.loop-walk.invariant
    ∙ all_ahead b c.args.leg.now c.args.rest.now c.deref-walk-items.result.now (c.deref-walk-items.ensures.value ∙ (c.in_ok-walks.ensures.walks ∙ ap (walks_by_number b.interlocking.now.routes) c.as_slice.ensures))
