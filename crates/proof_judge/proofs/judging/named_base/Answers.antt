use Rattle.clause_spec.specs.declared.question.BaseKind.TheVariants.{Plain}
use Rattle.proof_judge.proofs.Under.{of_its_steps}
use Rattle.proof_judge.proofs.judging.named_base.Goals as goal

pub extended-requires : goal.extended-requires
extended-requires c =
    let i = c.args.interlocking.now in
    record { base = of_its_steps Plain i.design.station i.routes c.args.steps.count c.in_ok-plain.plain c.in_ok-plain.ensures.base }
