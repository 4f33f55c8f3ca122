use Rattle.std.proofs.Common.{◌≡◌, ◌++◌, drop, flat_map}
use Rattle.bound_ticks.specs.Walks.{longer_by}
use Rattle.bound_ticks.proofs.walks.longer_walks.Given as goal

-- those found, and those left to find
abbrev pub invariant-loop-route : goal.invariant-loop-route
invariant-loop-route l = l.walks.items ++ flat_map (longer_by l.routes l.later) (drop l.route-index l.place) ≡ flat_map (longer_by l.routes l.later) l.place
