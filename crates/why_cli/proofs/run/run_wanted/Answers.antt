use Rattle.std.proofs.Common.{Some}
use Rattle.named_files.proofs.Printing.{prints_for}
use Rattle.why_words.specs.Words.{wanted_by}
use Rattle.why_cli.specs.Replies.{IsAnswerTo}
use Rattle.why_cli.proofs.run.run_wanted.Goals as goal

pub returns-clause-answer : goal.returns-clause-answer
returns-clause-answer g c =
    let w = wanted_by c.args.wanted in
    prints_for c.report.result _ _ _ _ _ (Some w.design) w.file (IsAnswerTo (Some w)) c.reply_to-made.result c.reply_to-made.ensures.replies c.report.ensures.reports
