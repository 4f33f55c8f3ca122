use Rattle.design_cli.proofs.Reporting.{answers_with, want_answers}
use Rattle.design_cli.proofs.printing.print_reply.Goals as goal

pub returns-in-Ok-clause-prints : goal.returns-in-Ok-clause-prints
returns-in-Ok-clause-prints g c = λ a h. answers_with c.print.result _ _ _ _ c.args.reply c.in-Ok.reply a c.in-Ok.is h c.print.ensures.prints c.print.ensures.no_shelf

pub returns-in-Err-clause-prints : goal.returns-in-Err-clause-prints
returns-in-Err-clause-prints g c = λ a h. want_answers a _ _
