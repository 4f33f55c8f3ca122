-- Nodes as sets of their numbers.
use Rattle.std.specs.Prelude.{◌≡◌, List}
use Rattle.rail_base.specs.declared.station.NodeNo.{NodeNo}
use Rattle.rail_spec.specs.Plans.{has_node}
use Rattle.number_sets.specs.declared.set.NumberSet.{NumberSet}
use Rattle.number_sets.specs.Sets.{contains}

-- the set has the numbers of the nodes
abbrev pub IsNodeSet : NumberSet → List NodeNo → Type 0
IsNodeSet set nodes = (n : NodeNo) → contains set n.0 ≡ has_node nodes n
