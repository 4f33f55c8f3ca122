use Rattle.std.proofs.Common.{◌≡◌, ◌++◌, ◌-◌, length}
use Rattle.rail_routes.specs.Pending.{going_on, station_of, to_come, IsInnermost}
use Rattle.rail_routes.proofs.search.Search.close.Given as goal

abbrev pub invariant-loop-edge : goal.invariant-loop-edge
invariant-loop-edge l = record {
  track : l.self.track ≡ l.fn.self.track;
  innermost : IsInnermost l.self l.level;
  same : going_on l.self l.level ++ to_come l.self ≡ going_on l.fn.self l.fn.from ++ to_come l.fn.self;
}

abbrev pub decreases-loop-edge : goal.decreases-loop-edge
decreases-loop-edge l = length (station_of l.self).edges - length l.self.path.edges.items
