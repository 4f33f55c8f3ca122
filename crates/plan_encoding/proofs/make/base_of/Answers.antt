use Rattle.std.proofs.Common.{subst, sym}
use Rattle.clause_spec.specs.declared.question.BaseKind.TheVariants.{Plain}
use Rattle.plan_encoding.specs.Bases.{IsBaseOf}
use Rattle.plan_encoding.proofs.Behind.{kind_refused}
use Rattle.plan_encoding.proofs.make.base_of.Goals as goal

pub extended-requires : goal.extended-requires
extended-requires c =
    let i = c.args.interlocking.now in
    let b = c.in-Ok.base in
    record { base = subst (λ m. IsBaseOf Plain i.design.station i.routes m b) (sym c.in-Ok.ensures.base.numbering.steps) c.in-Ok.ensures.base }

pub returns-in-Err-clause-fault : goal.returns-in-Err-clause-fault
returns-in-Err-clause-fault c =
    let i = c.args.interlocking.now in
    kind_refused c.args.kind i.design.station i.routes c.args.steps.count c.in-Err.fault c.in_default.not-Live c.in-Err.ensures.fault
