use Rattle.std.proofs.Common.{◌≡◌, ◌≤◌, ◌++◌, drop, flat_map, length}
use Rattle.plan_ways.specs.Paths.{longer}
use Rattle.plan_ways.proofs.paths.all_longer.Given as goal

abbrev pub invariant-loop-path : goal.invariant-loop-path
invariant-loop-path l =
    let i = l.interlocking in
    (l.all.items ++ flat_map (longer i.design.station i.routes l.train l.routes) (drop l.path-index l.paths)
    ≡ flat_map (longer i.design.station i.routes l.train l.routes) l.paths)
    × (length l.all.items ≤ l.most)
