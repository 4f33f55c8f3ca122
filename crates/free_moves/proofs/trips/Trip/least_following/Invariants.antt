use Rattle.std.proofs.Common.{◌≡◌, ◌-◌, ◌≤◌, drop}
use Rattle.rail_course.specs.Tracks.{routes_at}
use Rattle.free_spec.specs.Legs.{following, least_over}
use Rattle.free_moves.specs.Trips.{trip_ticks}
use Rattle.free_moves.proofs.trips.Trip.least_following.Given as goal

-- those left to ask say the same
abbrev pub invariant-loop-number : goal.invariant-loop-number
invariant-loop-number l = record {
  first : 1 ≤ l.number;
  left : least_over (trip_ticks l.self) l.first (following l.routes (routes_at l.routes l.path) l.rest) ≡ least_over (trip_ticks l.self) l.least (following (drop (l.number - 1) l.routes) (routes_at l.routes l.path) l.rest);
}
