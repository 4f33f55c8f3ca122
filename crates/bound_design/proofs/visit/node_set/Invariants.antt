use Rattle.std.proofs.Common.{◌≡◌, ◌==◌, take}
use Rattle.std.specs.List.{list_any}
use Rattle.rail_base.specs.declared.station.NodeNo.{NodeNo}
use Rattle.number_sets.specs.Sets.{contains}
use Rattle.bound_design.proofs.visit.node_set.Given as goal

-- the nodes so far are in the set
abbrev pub invariant-loop-node : goal.invariant-loop-node
invariant-loop-node l = (n : NodeNo) → contains l.set n.0 ≡ list_any (λ m. m.0 == n.0) (take l.node-index l.nodes)
