use Rattle.std.proofs.Common.{◌≡◌, drop}
use Rattle.std.specs.List.{list_any}
use Rattle.normal_clause_spec.specs.Clauses.{leads_to}
use Rattle.route_keepers.proofs.chains.Chains.lead_from_one.Given as goal

abbrev pub invariant-loop-first : goal.invariant-loop-first
invariant-loop-first l =
    list_any (λ v. leads_to l.self.interlocking.now.routes v l.last) (drop l.first-index l.firsts) ≡ list_any (λ v. leads_to l.self.interlocking.now.routes v l.last) l.firsts
