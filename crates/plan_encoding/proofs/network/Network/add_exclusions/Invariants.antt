use Rattle.std.proofs.Common.{◌≡◌, ◌++◌, map, drop, filter}
use Rattle.plan_encoding.specs.Tables.{exclude_both}
use Rattle.plan_encoding.proofs.network.Network.add_exclusions.Given as goal

-- what is found and what is left to find make all of it
abbrev pub invariant-loop-other : goal.invariant-loop-other
invariant-loop-other l = l.found.items ++ filter (exclude_both l.self.encoder.interlocking.now.routes) (map (λ q. (l.route, q)) (drop l.other-index l.later)) ≡ l.fn.found.items ++ filter (exclude_both l.self.encoder.interlocking.now.routes) (map (λ q. (l.route, q)) l.later)
