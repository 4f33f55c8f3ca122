use Rattle.std.proofs.Common.{Some}
use Rattle.named_files.proofs.Printing.{prints_for}
use Rattle.draw_cli.specs.Answers.{IsAnswerTo, design_name, plan_name}
use Rattle.draw_cli.specs.Words.{wanted_by}
use Rattle.draw_cli.proofs.Stopping.{names_unread}
use Rattle.draw_cli.proofs.run.run_wanted.Goals as goal

pub returns-clause-answer : goal.returns-clause-answer
returns-clause-answer g c =
    let w = Some (wanted_by c.args.wanted) in
    prints_for c.report.result _ _ _ _ _ (design_name w) (plan_name w) (IsAnswerTo w) c.reply_to-made.result c.reply_to-made.ensures.replies c.report.ensures.reports

pub returns-clause-unread : goal.returns-clause-unread
returns-clause-unread g c = λ fault.
    names_unread _ _ _ _ (Some (wanted_by c.args.wanted)) c.report.result _ _ c.reply_to-made.result (c.report.ensures.unread fault) fault c.reply_to-made.ensures.stops c.report.ensures.reports
