use Rattle.std.proofs.Common.{rules, ap, sym, ◌∙◌}
use Rattle.log_checker.specs.declared.check_result.CheckResult.{CheckResult}
use Rattle.proof_judge.specs.Judged.{judged}
use Rattle.proof_shell.specs.Answers.{for_file}
use Rattle.proof_shell.proofs.Judging.{proof_shown}
use Rattle.proof_shell.proofs.AnyShelf.{no_base, no_proof, no_memory}
use Rattle.proof_shell.proofs.checking.checked_proof.Goals as goal

pub returns-clause-replies : goal.returns-clause-replies
returns-clause-replies g c = λ files told_so.
    let d = c.args.interlocking.now.design.station in
    let n = c.args.steps.count in
    proof_shown n d (files c.args.proof.now) c.in_ok-bytes.bytes.items c.in_ok-shown.shown c.in_ok-reply.reply (c.in_ok-bytes.ensures.reads files told_so)
    (ap (for_file n d) (sym c.as_slice.ensures.value) ∙ c.in_ok-shown.ensures.reads) (c.in_ok-shown.ensures.shown ∙ ap (judged d n) c.as_slice.ensures.value) c.in_ok-reply.ensures.replies

pub returns-in_err-bytes-clause-for_some_bytes : goal.returns-in_err-bytes-clause-for_some_bytes
returns-in_err-bytes-clause-for_some_bytes g c = no_proof c.from_residual.result c.args.steps.count c.args.interlocking.now.design.station c.in_err-bytes.field-0.0 (search rules) c.in_err-bytes.ensures.for_some_bytes

pub returns-in_err-shown-clause-for_some_bytes : goal.returns-in_err-shown-clause-for_some_bytes
returns-in_err-shown-clause-for_some_bytes g c =
    let d = c.args.interlocking.now.design.station in
    no_base c.from_residual-in_err-shown.result c.args.steps.count d (λ (v : CheckResult). d) c.in_err-shown.field-0.0 (search rules) c.in_ok-bytes.bytes.items c.in_ok-bytes.ensures.for_some_bytes (rw c.as_slice.ensures.value at c.in_err-shown.ensures.reads)

pub returns-in_err-reply-clause-for_some_bytes : goal.returns-in_err-reply-clause-for_some_bytes
returns-in_err-reply-clause-for_some_bytes g c = no_memory c.from_residual-in_err-reply.result c.args.steps.count c.args.interlocking.now.design.station (search rules)

pub returns-clause-for_some_bytes : goal.returns-clause-for_some_bytes
returns-clause-for_some_bytes g c =
    let d = c.args.interlocking.now.design.station in
    let n = c.args.steps.count in
    let some = c.in_ok-bytes.ensures.for_some_bytes in (
      some.0,
      proof_shown n d some.0 c.in_ok-bytes.bytes.items c.in_ok-shown.shown c.in_ok-reply.reply some.1
          (ap (for_file n d) (sym c.as_slice.ensures.value) ∙ c.in_ok-shown.ensures.reads) (c.in_ok-shown.ensures.shown ∙ ap (judged d n) c.as_slice.ensures.value) c.in_ok-reply.ensures.replies,
    )
