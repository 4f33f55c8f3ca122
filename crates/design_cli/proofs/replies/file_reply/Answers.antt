use Rattle.std.proofs.Common.{◌≡◌, true, rules, ℕ, Vec, Global, sym}
use Rattle.rail_base.specs.Admission.{is_admitted}
use Rattle.cli_shell.specs.declared.input.InputFile.TheVariants as file
use Rattle.cli_shell.specs.Answers.{within_limit}
use Rattle.design_cli.proofs.Reading.{file_read, file_refused, from_text, gives_none, none_in_file}
use Rattle.design_cli.proofs.replies.file_reply.Goals as goal

pub returns-in_err-bytes-clause-replies : goal.returns-in_err-bytes-clause-replies
returns-in_err-bytes-clause-replies g c = λ files known. file_refused c.from_residual.result c.in_err-bytes.field-0.0 (files c.args.design.now) (search rules) (c.in_err-bytes.ensures.reads files known)

pub returns-in_err-bytes-clause-for_some_bytes : goal.returns-in_err-bytes-clause-for_some_bytes
returns-in_err-bytes-clause-for_some_bytes g c =
    let some = c.in_err-bytes.ensures.for_some_bytes in
    (some.0, file_refused c.from_residual.result c.in_err-bytes.field-0.0 some.0 (search rules) some.1)

pub returns-in_err-bytes-clause-admitted : goal.returns-in_err-bytes-clause-admitted
returns-in_err-bytes-clause-admitted g c = λ files known d is.
    let bytes = files c.args.design.now in
    let there = none_in_file bytes d is in
    gives_none c.from_residual.result (λ (v : Vec ℕ Global). v.items) c.in_err-bytes.field-0.0 (within_limit file.Design bytes) there.0 (is_admitted d ≡ true) (search rules) (c.in_err-bytes.ensures.reads files known) there.1

pub returns-clause-replies : goal.returns-clause-replies
returns-clause-replies g c = λ files known.
    file_read c.text_reply.result (files c.args.design.now) c.in_ok-bytes.bytes.items (c.in_ok-bytes.ensures.reads files known) (rw (sym c.as_slice.ensures.value) c.text_reply.ensures.replies)

pub returns-clause-for_some_bytes : goal.returns-clause-for_some_bytes
returns-clause-for_some_bytes g c =
    let some = c.in_ok-bytes.ensures.for_some_bytes in
    (some.0, file_read c.text_reply.result some.0 c.in_ok-bytes.bytes.items some.1 (rw (sym c.as_slice.ensures.value) c.text_reply.ensures.replies))

pub returns-clause-admitted : goal.returns-clause-admitted
returns-clause-admitted g c = λ files known d is.
    c.text_reply.ensures.admitted d (rw c.as_slice.ensures.value (from_text (files c.args.design.now) c.in_ok-bytes.bytes.items d (c.in_ok-bytes.ensures.reads files known) is))
