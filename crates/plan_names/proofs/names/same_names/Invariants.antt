use Rattle.std.proofs.Common.{◌≡◌, map, drop}
use Rattle.plan_names.specs.Shown.{edge_name, edge_names, same_names}
use Rattle.plan_names.proofs.names.same_names.Given as goal

-- they are the same where those from here on are
abbrev pub invariant-loop-index : goal.invariant-loop-index
invariant-loop-index l =
    same_names (edge_names l.design.station l.one) (edge_names l.design.station l.other)
    ≡ same_names (map (edge_name l.design.station) (drop l.index l.one.edges)) (map (edge_name l.design.station) (drop l.index l.other.edges))
