use Rattle.std.proofs.Common.{sym, ◌∙◌, arith}
use Rattle.cone_run.proofs.Looking.{named_until, visit_within}
use Rattle.cone_run.proofs.checked.ConeRun.shows_order.Goals as goal

pub visit_tick-requires-clause-within : goal.visit_tick-requires-clause-within
visit_tick-requires-clause-within c =
    let l = c.args.self.now.layout in
    let until = named_until l.interlocking.now.design.station l.interlocking.now.routes l.cone.now l.known c.args.order.now.then_train in
    let horizon = c.horizon_of-last.ensures in
    omega arith

pub comes_after-requires-clause-tick : goal.comes_after-requires-clause-tick
comes_after-requires-clause-tick c =
    let l = c.args.self.now.layout in
    (visit_within l.interlocking.now.design.station l.interlocking.now.routes l.cone.now l.known c.horizon_of-last.result c.args.order.now.then_train c.args.order.now.then_visit c.in-Some.tick (sym c.visit_tick.ensures ∙ c.in-Some.is)).0
