use Rattle.std.proofs.Common.{◌≡◌, ◌++◌, drop, filter}
use Rattle.plan_ways.specs.Paths.{makes_all}
use Rattle.plan_ways.proofs.ways.push_ways.Given as goal

abbrev pub invariant-loop-path : goal.invariant-loop-path
invariant-loop-path l =
    let i = l.interlocking in
    l.ways.items ++ filter (makes_all i.design.station i.routes l.train) (drop l.path-index l.paths)
    ≡ l.fn.ways.items ++ filter (makes_all i.design.station i.routes l.train) l.paths
