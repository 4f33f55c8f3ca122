use Rattle.log_checker.specs.declared.check_result.CheckResult.{CheckResult}
use Rattle.cli_shell.proofs.Refusing.{ended_reads}
use Rattle.proof_shell.proofs.Judging.{judged_passes, unjudged_so}
use Rattle.proof_shell.proofs.checking.shown_of.Goals as goal

pub returns-in-Ok-clause-reads : goal.returns-in-Ok-clause-reads
returns-in-Ok-clause-reads c = judged_passes c.args.steps.count c.args.interlocking.now.design.station c.args.bytes.now c.in-Ok.ensures.fits

pub returns-in-Err-TooLarge-clause-reads : goal.returns-in-Err-TooLarge-clause-reads
returns-in-Err-TooLarge-clause-reads c =
    let d = c.args.interlocking.now.design.station in
    rw c.ending_of.ensures (ended_reads (λ (v : CheckResult). d) c.too_large.result _ _ c.too_large.ensures (unjudged_so c.args.steps.count d c.args.bytes.now c.in-Err-TooLarge.field-0 c.in-Err-TooLarge.field-0-0 c.in-Err-TooLarge.field-0-is c.in-Err-TooLarge.ensures.fault))
