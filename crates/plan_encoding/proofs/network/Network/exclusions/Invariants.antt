use Rattle.std.proofs.Common.{◌≡◌, ◌++◌, length, filter}
use Rattle.std.specs.Prelude.{All}
use Rattle.rail_base.specs.Routes.{IsRoute}
use Rattle.clause_spec.specs.Clauses.{later_pairs}
use Rattle.plan_encoding.specs.Encoders.{table}
use Rattle.plan_encoding.specs.Tables.{exclude_both, exclusions}
use Rattle.plan_encoding.proofs.network.Network.exclusions.Given as goal

-- what is found and what is left to find make all of it
abbrev pub invariant-loop-route : goal.invariant-loop-route
invariant-loop-route l = record {
  known : All (IsRoute (table l.self.encoder)) l.left;
  same : l.found.items ++ filter (exclude_both (table l.self.encoder)) (later_pairs l.left) ≡ exclusions (table l.self.encoder);
}

abbrev pub decreases-loop-route : goal.decreases-loop-route
decreases-loop-route l = length l.left
