use Rattle.std.proofs.Common.{rules, sym}
use Rattle.design_cli.proofs.Reading.{plan_file_read, plan_file_refused}
use Rattle.design_cli.proofs.plans.plan_reply.Goals as goal

pub returns-in_err-bytes-clause-replies : goal.returns-in_err-bytes-clause-replies
returns-in_err-bytes-clause-replies g c = λ files known. plan_file_refused c.from_residual.result c.args.form c.args.interlocking.now.design.station c.in_err-bytes.field-0.0 (files c.args.plan.now) (search rules) (c.in_err-bytes.ensures.reads files known)

pub returns-in_err-bytes-clause-for_some_bytes : goal.returns-in_err-bytes-clause-for_some_bytes
returns-in_err-bytes-clause-for_some_bytes g c =
    let some = c.in_err-bytes.ensures.for_some_bytes in
    (some.0, plan_file_refused c.from_residual.result c.args.form c.args.interlocking.now.design.station c.in_err-bytes.field-0.0 some.0 (search rules) some.1)

pub returns-clause-replies : goal.returns-clause-replies
returns-clause-replies g c = λ files known. plan_file_read c.plan_text_reply.result c.args.form c.args.interlocking.now.design.station (files c.args.plan.now) c.in_ok-bytes.bytes.items (c.in_ok-bytes.ensures.reads files known) (rw (sym c.as_slice.ensures.value) c.plan_text_reply.ensures.replies)

pub returns-clause-for_some_bytes : goal.returns-clause-for_some_bytes
returns-clause-for_some_bytes g c =
    let some = c.in_ok-bytes.ensures.for_some_bytes in
    (some.0, plan_file_read c.plan_text_reply.result c.args.form c.args.interlocking.now.design.station some.0 c.in_ok-bytes.bytes.items some.1 (rw (sym c.as_slice.ensures.value) c.plan_text_reply.ensures.replies))
