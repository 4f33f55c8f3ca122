use Rattle.std.proofs.Common.{[], ◌∷◌}
use Rattle.design_cli.proofs.Reporting.{reports_ok, reports_refused, reports_unread, want_reports}
use Rattle.design_cli.proofs.printing.print_for_file.Goals as goal

pub returns-in-Ok-clause-prints : goal.returns-in-Ok-clause-prints
returns-in-Ok-clause-prints g c = λ a h. reports_ok c.print.result _ _ _ _ c.args.reply c.in-Ok.reply a (c.args.name.now ∷ []) c.in-Ok.is h c.print.ensures.prints c.print.ensures.no_shelf

pub returns-in-Err-RefusedWith-clause-prints : goal.returns-in-Err-RefusedWith-clause-prints
returns-in-Err-RefusedWith-clause-prints g c = λ a h.
    reports_refused c.print-in-Err-RefusedWith.result _ _ _ _ c.args.reply c.in-Err-RefusedWith.field-0 c.in-Err-RefusedWith.reply a (c.args.name.now ∷ []) c.in-Err-RefusedWith.is c.in-Err-RefusedWith.field-0-is h c.print-in-Err-RefusedWith.ensures.prints c.print-in-Err-RefusedWith.ensures.no_shelf

pub returns-in-Err-Memory-clause-prints : goal.returns-in-Err-Memory-clause-prints
returns-in-Err-Memory-clause-prints g c = λ a h. want_reports a (c.args.name.now ∷ []) _ _

pub returns-in-Err-ShelfFault-clause-prints : goal.returns-in-Err-ShelfFault-clause-prints
returns-in-Err-ShelfFault-clause-prints g c = λ a h. reports_unread c.print_unread.result _ _ _ _ c.args.name.now a c.print_unread.ensures.prints
