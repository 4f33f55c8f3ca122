use Rattle.std.proofs.Common.{◌≡◌, ◌++◌, drop, filter}
use Rattle.rail_spec.specs.Plans.{route_at, goes_on}
use Rattle.clause_spec.specs.Clauses.{leading_to}
use Rattle.plan_encoding.specs.Encoders.{table}
use Rattle.plan_encoding.proofs.network.Network.leading_to.Given as goal

-- what is found and what is left to find make all of it
abbrev pub invariant-loop-number : goal.invariant-loop-number
invariant-loop-number l = l.found.items ++ filter (λ q. goes_on (route_at (table l.self.encoder) q).finish l.start) (drop l.number-index l.number-items) ≡ leading_to (table l.self.encoder) l.start
