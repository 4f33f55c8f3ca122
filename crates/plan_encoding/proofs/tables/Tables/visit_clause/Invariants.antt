use Rattle.std.proofs.Common.{◌≡◌, ◌++◌, drop, filter}
use Rattle.clause_spec.specs.Clauses.{may_visit}
use Rattle.plan_encoding.specs.Families.{one_given, visited_on}
use Rattle.plan_encoding.specs.Encoders.{over, written}
use Rattle.plan_encoding.proofs.tables.Tables.visit_clause.Given as goal

-- what is put and what is left to put make all of it
abbrev pub invariant-loop-route : goal.invariant-loop-route
invariant-loop-route l =
    l.clause.items ++ written l.self.encoder (one_given l.train (filter (over l.self.encoder may_visit l.number l.set) (drop l.route-index l.route-items)) l.self.encoder.steps.count)
    ≡ written l.self.encoder (visited_on l.self.encoder l.train l.number l.set)
