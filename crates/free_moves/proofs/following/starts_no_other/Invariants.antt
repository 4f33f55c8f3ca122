use Rattle.std.proofs.Common.{◌≡◌, drop, map}
use Rattle.rail_base.specs.Routes.{route_at}
use Rattle.cone_spec.specs.Clauses.{goes_further}
use Rattle.cone_spec.proofs.Further.{further_after}
use Rattle.free_moves.proofs.following.starts_no_other.Given as goal

-- what is left to ask says the same
abbrev pub invariant-loop-number : goal.invariant-loop-number
invariant-loop-number l = further_after l.next l.goes (map (route_at l.routes) (drop l.number-index l.walk)) ≡ goes_further (map (route_at l.routes) l.walk) l.next
