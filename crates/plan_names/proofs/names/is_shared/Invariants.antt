use Rattle.std.proofs.Common.{◌≡◌, ◌≤◌, length, take}
use Rattle.plan_names.specs.Shown.{edge_names, routes_over}
use Rattle.plan_names.proofs.names.is_shared.Given as goal

-- so many of the routes so far run over these edges
abbrev pub invariant-loop-other : goal.invariant-loop-other
invariant-loop-other l =
    (l.many ≡ length (routes_over l.interlocking.design.station (take l.other-index l.interlocking.routes) (edge_names l.interlocking.design.station l.route)))
    × (l.many ≤ l.other-index)
