use Rattle.std.proofs.Common.{arith}
use Rattle.cone_run.proofs.Looking.{named_until}
use Rattle.cone_run.proofs.checked.ConeRun.shows_visit.Goals as goal

pub visit_tick-requires-clause-within : goal.visit_tick-requires-clause-within
visit_tick-requires-clause-within c =
    let l = c.args.self.now.layout in
    let until = named_until l.interlocking.now.design.station l.interlocking.now.routes l.cone.now l.known c.args.train in
    let horizon = c.horizon_of-last.ensures in
    omega arith
