use Rattle.std.proofs.Common.{◌≡◌, List, Option, Result, Err, Vec, Global, option_map, sym, ap, subst, ◌∙◌}
use Rattle.bound_spec.specs.declared.EvidenceFault.{EvidenceFault}
use Rattle.sat_clause.specs.declared.lit.Lit.{Lit}
use Rattle.proof_judge.proofs.Deciding.{cone_dead, cone_faulty, cone_shown, no_path}
use Rattle.proof_judge.proofs.evidence.ByDesign.cone_clause.Goals as goal

mapped : (o p : Option (Vec Lit Global)) (r : Option (List Lit)) → o ≡ p → option_map (λ v. v.items) o ≡ r → option_map (λ v. v.items) p ≡ r
mapped o p r e h = subst (λ x. option_map (λ v. v.items) x ≡ r) e h

-- the reason that is said is the reason
told : (r : Result (List Lit) EvidenceFault) (known fault : EvidenceFault) → r ≡ Err known → known ≡ fault → r ≡ Err fault
told r known fault e same = e ∙ ap Err same

pub returns-then-not-branch-clause-fault : goal.returns-then-not-branch-clause-fault
returns-then-not-branch-clause-fault c = λ fault e.
    let s = c.args.self.now in
    let i = s.contention.interlocking.now in
    told _ _ fault (no_path s.kind i.design.station i.routes i.table s.steps.count s.steps.at_least_one s.contention.pairs.now.commands s.speaks c.args.cone.now (sym c.in_ok-is_in_design.ensures ∙ c.if-not-branch.true)) cc

pub returns-in_default-clause-fault : goal.returns-in_default-clause-fault
returns-in_default-clause-fault c = λ fault e.
    let s = c.args.self.now in
    let i = s.contention.interlocking.now in
    told _ _ fault (cone_dead s.kind i.design.station i.routes i.table s.steps.count s.steps.at_least_one s.contention.pairs.now.commands s.speaks c.args.cone.now (sym c.in_ok-is_in_design.ensures ∙ c.if-not-branch.false) (mapped _ _ _ c.in_default.is c.in_ok-clause.ensures)) cc

pub returns-in-Some-2-clause-fault : goal.returns-in-Some-2-clause-fault
returns-in-Some-2-clause-fault c = λ fault e.
    let s = c.args.self.now in
    let i = s.contention.interlocking.now in
    told _ _ fault (cone_faulty s.kind i.design.station i.routes i.table s.steps.count s.steps.at_least_one s.contention.pairs.now.commands s.speaks c.args.cone.now (sym c.in_ok-is_in_design.ensures ∙ c.if-not-branch.false) c.in-Some.clause.items (mapped _ _ _ c.in-Some.is c.in_ok-clause.ensures) c.in-Some-2.fault (sym c.in_ok-fault.ensures.value ∙ c.in-Some-2.is)) cc

pub returns-in-None-clause-ok : goal.returns-in-None-clause-ok
returns-in-None-clause-ok c =
    let s = c.args.self.now in
    let i = s.contention.interlocking.now in
    cone_shown s.kind i.design.station i.routes i.table s.steps.count s.steps.at_least_one s.contention.pairs.now.commands s.speaks c.args.cone.now (sym c.in_ok-is_in_design.ensures ∙ c.if-not-branch.false) c.in-Some.clause.items (mapped _ _ _ c.in-Some.is c.in_ok-clause.ensures) (sym c.in_ok-fault.ensures.value ∙ c.in-None.is)
