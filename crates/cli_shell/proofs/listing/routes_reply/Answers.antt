use Rattle.std.proofs.Common.{rules, Ok, refl, ap, sym, ◌∙◌}
use Rattle.interlocking.specs.declared.railway.Interlocking.{Interlocking}
use Rattle.cli_shell.specs.Answers.{design_in}
use Rattle.cli_shell.proofs.AnyShelf.{want_list, unlisted, unlisted_design, all_listed}
use Rattle.cli_shell.proofs.listing.routes_reply.Goals as goal

pub returns-in_err-bytes-clause-for_some_files : goal.returns-in_err-bytes-clause-for_some_files
returns-in_err-bytes-clause-for_some_files g c = unlisted c.from_residual.result c.in_err-bytes.field-0.0 (search rules) c.in_err-bytes.ensures.for_some_bytes

pub returns-in_err-interlocking-clause-for_some_files : goal.returns-in_err-interlocking-clause-for_some_files
returns-in_err-interlocking-clause-for_some_files g c =
    unlisted_design c.from_residual-in_err-interlocking.result c.in_ok-bytes.bytes.items c.in_ok-bytes.ensures.for_some_bytes (λ (i : Interlocking). i.design.station) c.in_err-interlocking.field-0.0 (search rules) (rw c.as_slice.ensures.value at c.in_err-interlocking.ensures.reads)

pub returns-in_err-list-clause-for_some_files : goal.returns-in_err-list-clause-for_some_files
returns-in_err-list-clause-for_some_files g c = want_list c.from_residual-in_err-list.result (search rules)

pub returns-clause-for_some_files : goal.returns-clause-for_some_files
returns-clause-for_some_files g c =
    all_listed (Ok c.in_ok-list.field-0) c.in_ok-bytes.bytes.items c.in_ok-bytes.ensures.for_some_bytes c.in_ok-interlocking.interlocking.design.station c.in_ok-list.field-0
    (ap design_in (sym c.as_slice.ensures.value) ∙ c.in_ok-interlocking.ensures.reads) refl c.in_ok-list.ensures.routes_answer
