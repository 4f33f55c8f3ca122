use Rattle.std.proofs.Common.{◌≡◌, ◌++◌, drop}
use Rattle.plan_ways.specs.Paths.{longer}
use Rattle.plan_ways.proofs.paths.push_longer.Given as goal

abbrev pub invariant-loop-route : goal.invariant-loop-route
invariant-loop-route l =
    let i = l.interlocking in
    l.paths.items ++ longer i.design.station i.routes l.train (drop l.route-index l.routes) l.path
    ≡ l.fn.paths.items ++ longer i.design.station i.routes l.train l.routes l.path
