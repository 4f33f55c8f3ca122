use Rattle.std.proofs.Common.{◌≡◌, map, take}
use Rattle.plan_names.specs.Shown.{edge_name}
use Rattle.plan_names.proofs.names.edge_names.Given as goal

-- the names so far have been appended
abbrev pub invariant-loop-edge : goal.invariant-loop-edge
invariant-loop-edge l = l.names ≡ map (edge_name l.design.station) (take l.edge-index l.route.edges)
