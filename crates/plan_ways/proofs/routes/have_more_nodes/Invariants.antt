use Rattle.std.proofs.Common.{◌≡◌, ◌+◌, drop, sum_by}
use Rattle.plan_ways.specs.Paths.{nodes_of}
use Rattle.plan_ways.proofs.routes.have_more_nodes.Given as goal

abbrev pub invariant-loop-way : goal.invariant-loop-way
invariant-loop-way l = l.left + sum_by (nodes_of l.routes) l.ways ≡ l.most + sum_by (nodes_of l.routes) (drop l.way-index l.ways)
