use Rattle.std.proofs.Common.{rules, sym}
use Rattle.design_cli.proofs.Reading.{design_ended, design_read}
use Rattle.design_cli.proofs.plans.interlocking_in.Goals as goal

pub returns-in_err-bytes-clause-reads : goal.returns-in_err-bytes-clause-reads
returns-in_err-bytes-clause-reads g c = λ files known. design_ended c.from_residual.result c.in_err-bytes.field-0.0 (files c.args.design.now) (search rules) (c.in_err-bytes.ensures.reads files known)

pub returns-in_err-bytes-clause-for_some_bytes : goal.returns-in_err-bytes-clause-for_some_bytes
returns-in_err-bytes-clause-for_some_bytes g c =
    let some = c.in_err-bytes.ensures.for_some_bytes in
    (some.0, design_ended c.from_residual.result c.in_err-bytes.field-0.0 some.0 (search rules) some.1)

pub returns-clause-reads : goal.returns-clause-reads
returns-clause-reads g c = λ files known. design_read c.admit.result (files c.args.design.now) c.in_ok-bytes.bytes.items (c.in_ok-bytes.ensures.reads files known) (rw (sym c.as_slice.ensures.value) c.admit.ensures.reads)

pub returns-clause-for_some_bytes : goal.returns-clause-for_some_bytes
returns-clause-for_some_bytes g c =
    let some = c.in_ok-bytes.ensures.for_some_bytes in
    (some.0, design_read c.admit.result some.0 c.in_ok-bytes.bytes.items some.1 (rw (sym c.as_slice.ensures.value) c.admit.ensures.reads))
