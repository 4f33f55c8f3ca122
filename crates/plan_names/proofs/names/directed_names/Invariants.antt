use Rattle.std.proofs.Common.{◌≡◌, take}
use Rattle.plan_names.specs.Shown.{directed}
use Rattle.plan_names.proofs.names.directed_names.Given as goal

-- the names so far have been appended
abbrev pub invariant-loop-index : goal.invariant-loop-index
invariant-loop-index l = l.names ≡ directed l.design.station (take l.index l.route.edges) l.route.nodes
