use Rattle.std.proofs.Common.{◌≡◌, ◌≤◌, drop, length, map}
use Rattle.train_ways.specs.Pairs.{made_on}
use Rattle.train_ways.proofs.visits.made_behind.Given as goal

abbrev pub invariant-loop-node : goal.invariant-loop-node
invariant-loop-node l = record {
  is : made_on l.visits (map (λ n. n.0) (drop l.node-index l.node-items)) l.made ≡ made_on l.visits (map (λ n. n.0) l.node-items) l.before;
  within : l.made ≤ length l.visits;
}
