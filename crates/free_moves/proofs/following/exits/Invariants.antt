use Rattle.std.proofs.Common.{◌≡◌, drop, map}
use Rattle.std.specs.List.{list_any}
use Rattle.rail_base.specs.Routes.{route_at, exits}
use Rattle.free_moves.proofs.following.exits.Given as goal

-- those left decide
abbrev pub invariant-loop-number : goal.invariant-loop-number
invariant-loop-number l = list_any exits (map (route_at l.routes) l.walk) ≡ list_any exits (map (route_at l.routes) (drop l.number-index l.walk))
