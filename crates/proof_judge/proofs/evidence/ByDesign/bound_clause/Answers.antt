use Rattle.std.proofs.Common.{◌≡◌, List, Option, Result, Err, Vec, Global, option_map, sym, ap, subst, ◌∙◌}
use Rattle.bound_spec.specs.declared.EvidenceFault.{EvidenceFault}
use Rattle.sat_clause.specs.declared.lit.Lit.{Lit}
use Rattle.proof_judge.proofs.Deciding.{accepted, bound_dead, not_covered, not_named, not_shown}
use Rattle.proof_judge.proofs.evidence.ByDesign.bound_clause.Goals as goal

mapped : (o p : Option (Vec Lit Global)) (r : Option (List Lit)) → o ≡ p → option_map (λ v. v.items) o ≡ r → option_map (λ v. v.items) p ≡ r
mapped o p r e h = subst (λ x. option_map (λ v. v.items) x ≡ r) e h

-- the reason that is said is the reason
told : (r : Result (List Lit) EvidenceFault) (known fault : EvidenceFault) → r ≡ Err known → known ≡ fault → r ≡ Err fault
told r known fault e same = e ∙ ap Err same

pub returns-then-not-branch-clause-fault : goal.returns-then-not-branch-clause-fault
returns-then-not-branch-clause-fault c = λ fault e.
    let s = c.args.self.now in
    let i = s.contention.interlocking.now in
    told _ _ fault (not_named s.kind i.design.station i.routes i.table s.steps.count s.steps.at_least_one s.contention.pairs.now.commands s.speaks c.args.bound.now (sym c.in_ok-names_design.ensures ∙ c.if-not-branch.true)) cc

pub returns-in_default-clause-fault : goal.returns-in_default-clause-fault
returns-in_default-clause-fault c = λ fault e.
    let s = c.args.self.now in
    let i = s.contention.interlocking.now in
    told _ _ fault (bound_dead s.kind i.design.station i.routes i.table s.steps.count s.steps.at_least_one s.contention.pairs.now.commands s.speaks c.args.bound.now (sym c.in_ok-names_design.ensures ∙ c.if-not-branch.false) (mapped _ _ _ c.in_default.is c.in_ok-clause.ensures)) cc

pub returns-then-not-branch-2-clause-fault : goal.returns-then-not-branch-2-clause-fault
returns-then-not-branch-2-clause-fault c = λ fault e.
    let s = c.args.self.now in
    let i = s.contention.interlocking.now in
    told _ _ fault (not_covered s.kind i.design.station i.routes i.table s.steps.count s.steps.at_least_one s.contention.pairs.now.commands s.speaks c.args.bound.now (sym c.in_ok-names_design.ensures ∙ c.if-not-branch.false) c.in-Some.clause.items (mapped _ _ _ c.in-Some.is c.in_ok-clause.ensures) (sym c.in_ok-is_covered.ensures ∙ c.if-not-branch-2.true)) cc

pub returns-then-not-branch-3-clause-fault : goal.returns-then-not-branch-3-clause-fault
returns-then-not-branch-3-clause-fault c = λ fault e.
    let s = c.args.self.now in
    let i = s.contention.interlocking.now in
    told _ _ fault (not_shown s.kind i.design.station i.routes i.table s.steps.count s.steps.at_least_one s.contention.pairs.now.commands s.speaks c.args.bound.now (sym c.in_ok-names_design.ensures ∙ c.if-not-branch.false) c.in-Some.clause.items (mapped _ _ _ c.in-Some.is c.in_ok-clause.ensures) (sym c.in_ok-is_covered.ensures ∙ c.if-not-branch-2.false) (sym c.in_ok-shows_failure.ensures ∙ c.if-not-branch-3.true)) cc

pub returns-clause-ok : goal.returns-clause-ok
returns-clause-ok c =
    let s = c.args.self.now in
    let i = s.contention.interlocking.now in
    accepted s.kind i.design.station i.routes i.table s.steps.count s.steps.at_least_one s.contention.pairs.now.commands s.speaks c.args.bound.now (sym c.in_ok-names_design.ensures ∙ c.if-not-branch.false) c.in-Some.clause.items (mapped _ _ _ c.in-Some.is c.in_ok-clause.ensures) (sym c.in_ok-is_covered.ensures ∙ c.if-not-branch-2.false) (sym c.in_ok-shows_failure.ensures ∙ c.if-not-branch-3.false)
