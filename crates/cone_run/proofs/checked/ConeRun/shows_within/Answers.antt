use Rattle.std.proofs.Common.{sym, ◌∙◌, arith}
use Rattle.rail_base.proofs.Admitting.{admitted}
use Rattle.cone_run.proofs.Looking.{named_until, visit_within}
use Rattle.cone_run.proofs.Riding.{last_within}
use Rattle.cone_run.proofs.checked.ConeRun.shows_within.Goals as goal

pub visit_tick-requires-clause-within : goal.visit_tick-requires-clause-within
visit_tick-requires-clause-within c =
    let l = c.args.self.now.layout in
    let until = named_until l.interlocking.now.design.station l.interlocking.now.routes l.cone.now l.known c.args.within.now.from_train in
    let horizon = c.horizon_of-last.ensures in
    omega arith

pub comes_late-requires-clause-tick : goal.comes_late-requires-clause-tick
comes_late-requires-clause-tick c =
    let l = c.args.self.now.layout in
    let d = l.interlocking.now.design.station in
    let routes = l.interlocking.now.routes in
    let known = l.known in
    let within = (visit_within d routes l.cone.now known c.horizon_of-last.result c.args.within.now.from_train c.args.within.now.from_visit c.in-Some.tick (sym c.visit_tick.ensures ∙ c.in-Some.is)).1 in
    let until = named_until d routes l.cone.now known c.args.within.now.from_train in
    let horizon = c.horizon_of-last.ensures in
    let last = last_within d routes l.cone.now known in
    let most = (admitted d l.interlocking.now.design.admitted).ticks.1 in
    omega arith
