use Rattle.std.proofs.Common.{◌≡◌, ◌≤◌, take, length}
use Rattle.rail_routes.proofs.path.Path.shorten.Given as goal

abbrev pub invariant-loop-self : goal.invariant-loop-self
invariant-loop-self l = record {
  fewer : l.edges ≤ length l.self.edges.items;
  prefix : take l.edges l.self.edges.items ≡ take l.edges l.fn.self.edges.items;
  marks : length l.self.marks.items ≡ length l.fn.self.marks.items;
}

abbrev pub decreases-loop-self : goal.decreases-loop-self
decreases-loop-self l = length l.self.edges.items
