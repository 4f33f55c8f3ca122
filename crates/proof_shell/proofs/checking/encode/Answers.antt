use Rattle.std.proofs.Common.{List, ap, sym, ◌∙◌}
use Rattle.rail_base.specs.declared.route.Route.{Route}
use Rattle.clause_spec.specs.Clauses.{base_clauses, past_limit}
use Rattle.clause_spec.specs.declared.question.BaseKind.TheVariants.{Plain}
use Rattle.plan_encoding.specs.declared.numbering.Base.{Base}
use Rattle.cli_shell.proofs.Refusing.{ended_reads}
use Rattle.proof_shell.proofs.Judging.{small_passes, refused_so}
use Rattle.proof_shell.proofs.checking.encode.Goals as goal

pub returns-in-Ok-clause-reads : goal.returns-in-Ok-clause-reads
returns-in-Ok-clause-reads c = small_passes Plain c.args.steps.count c.args.interlocking.now.design.station (ap (λ (r : List Route). past_limit 16000000 0 (base_clauses c.args.interlocking.now.design.station r c.args.steps.count)) (sym c.args.interlocking.now.table) ∙ c.in-Ok.ensures.base.few)

pub returns-in-Err-TooLarge-clause-reads : goal.returns-in-Err-TooLarge-clause-reads
returns-in-Err-TooLarge-clause-reads c =
    let d = c.args.interlocking.now.design.station in
    rw c.ending_of.ensures (ended_reads (λ (b : Base). d) c.too_large.result _ _ c.too_large.ensures (refused_so c.args.steps.count d c.args.interlocking.now.routes c.in-Err-TooLarge.field-0 c.in-Err-TooLarge.field-0-0 c.args.interlocking.now.table c.in-Err-TooLarge.field-0-is c.in-Err-TooLarge.ensures.fault))
