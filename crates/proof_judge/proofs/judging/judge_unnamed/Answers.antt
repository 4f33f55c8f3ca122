use Rattle.std.proofs.Common.{ap, ◌∙◌}
use Rattle.clause_spec.specs.declared.question.BaseKind.TheVariants.{Plain}
use Rattle.proof_log.specs.declared.head.Head.TheVariants.{Unnamed}
use Rattle.proof_judge.specs.Judged.{judged_under}
use Rattle.proof_judge.proofs.Under.{of_its_steps}
use Rattle.proof_judge.proofs.judging.judge_unnamed.Goals as goal

pub judge_base-requires : goal.judge_base-requires
judge_base-requires c =
    let i = c.args.interlocking.now in
    record { base = of_its_steps Plain i.design.station i.routes c.args.steps.count c.in_ok-base.base c.in_ok-base.ensures.base }

pub returns-clause-value : goal.returns-clause-value
returns-clause-value c =
    c.in_ok-shown.ensures ∙ ap (λ k. judged_under Unnamed c.args.interlocking.now.design.station k c.args.bytes.now) c.in_ok-base.ensures.base.numbering.steps
