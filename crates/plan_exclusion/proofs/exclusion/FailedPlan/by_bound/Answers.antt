use Rattle.std.proofs.Common.{◌≡◌, Option, Some, MatchOption, Vec, Global, sym, ap, subst, ◌∙◌}
use Rattle.proof_log.specs.declared.line.Line.TheVariants.{Refute}
use Rattle.proof_log.specs.Lines.{line_in_bytes}
use Rattle.bound_spec.specs.declared.Bound.{Bound}
use Rattle.bound_spec.specs.declared.Evidence.TheVariants as evidence
use Rattle.sat_clause.specs.declared.lit.Lit.{Lit}
use Rattle.plan_exclusion.specs.Written.{DeniedBy, DeniesNothing, IsNoBoundLine}
use Rattle.plan_exclusion.proofs.Bounding.{bounded_so}
use Rattle.plan_exclusion.proofs.exclusion.FailedPlan.by_bound.Goals as goal

one_bound : (x y : Bound) → Some (Refute (evidence.Bound x)) ≡ Some (Refute (evidence.Bound y)) → x ≡ y
one_bound x y e = cc

pub returns-in-None : goal.returns-in-None
returns-in-None c = λ b e clause denied.
    let f = c.args.self.now in
    let read = subst (λ (o : Option Bound). MatchOption o (IsNoBoundLine c.deref.result.now) (λ x. line_in_bytes c.deref.result.now ≡ Some (Refute (evidence.Bound x)))) c.in-Some.is c.in_ok-bound.ensures in
    let none = subst (λ (o : Option (Vec Lit Global)). MatchOption o (DeniesNothing f (evidence.Bound c.in-Some.bound)) (λ x. DeniedBy f (evidence.Bound c.in-Some.bound) x.items)) c.in-None.is c.in_ok-clause.ensures in
    let line = ap line_in_bytes (c.deref.ensures.value ∙ c.in_ok-line.ensures) in
    none clause (subst (λ (x : Bound). DeniedBy f (evidence.Bound x) clause) (one_bound b c.in-Some.bound (sym e ∙ (sym line ∙ read))) denied)

pub returns-in-Some-2 : goal.returns-in-Some-2
returns-in-Some-2 c =
    let f = c.args.self.now in
    let d = f.contention.interlocking.now.design.station in
    let read = subst (λ (o : Option Bound). MatchOption o (IsNoBoundLine c.deref.result.now) (λ x. line_in_bytes c.deref.result.now ≡ Some (Refute (evidence.Bound x)))) c.in-Some.is c.in_ok-bound.ensures in
    let denied = subst (λ (o : Option (Vec Lit Global)). MatchOption o (DeniesNothing f (evidence.Bound c.in-Some.bound)) (λ x. DeniedBy f (evidence.Bound c.in-Some.bound) x.items)) c.in-Some-2.is c.in_ok-clause.ensures in
    bounded_so d f.steps.count f.steps.at_least_one f.plan.now.steps f.runs f.kind f.values.now f.decoded f.history.now f.tick f.violation f.fails
    c.in-Some.bound (c.requires c.in-Some.bound) c.in_ok-line.line.items c.in-Some-2.clause.items (ap line_in_bytes (sym c.deref.ensures.value) ∙ read) denied.0 denied.1
