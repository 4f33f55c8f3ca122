use Rattle.std.proofs.Common.{sym}
use Rattle.rail_words.specs.Words.{texts_of}
use Rattle.named_files.proofs.Printing.{prints_nothing_for}
use Rattle.draw_cli.specs.Answers.{IsAnswerTo, design_name, plan_name}
use Rattle.draw_cli.specs.Wanted.{wanted_of}
use Rattle.draw_cli.specs.Words.{asked_by}
use Rattle.draw_cli.proofs.Answering.{asked_for, asked_grows}
use Rattle.draw_cli.proofs.Stopping.{asked_unread}
use Rattle.draw_cli.proofs.Using.{usage_for}
use Rattle.draw_cli.proofs.run.run_draw.Goals as goal

pub returns-in-Ok-clause-answer : goal.returns-in-Ok-clause-answer
returns-in-Ok-clause-answer g c = asked_for c.run_asked.result _ _ _ _ _ (wanted_of (texts_of c.args.words.now)) (asked_by c.in-Ok.both) (sym c.in-Ok.ensures) c.run_asked.ensures.answer

pub returns-in-Ok-clause-unread : goal.returns-in-Ok-clause-unread
returns-in-Ok-clause-unread g c = λ fault. asked_unread _ _ _ _ (wanted_of (texts_of c.args.words.now)) (asked_by c.in-Ok.both) (sym c.in-Ok.ensures) (c.run_asked.ensures.unread fault)

pub returns-in-Ok-clause-usage : goal.returns-in-Ok-clause-usage
returns-in-Ok-clause-usage g c =
    let w = wanted_of (texts_of c.args.words.now) in
    usage_for _ w c.run_asked.result _ _ _ _ (asked_for c.run_asked.result _ _ _ _ _ w (asked_by c.in-Ok.both) (sym c.in-Ok.ensures) c.run_asked.ensures.answer)

pub returns-in-Ok-clause-asked : goal.returns-in-Ok-clause-asked
returns-in-Ok-clause-asked g c = asked_grows (wanted_of (texts_of c.args.words.now)) (asked_by c.in-Ok.both) _ _ (sym c.in-Ok.ensures) c.run_asked.ensures.asked

pub returns-in-Err-clause-answer : goal.returns-in-Err-clause-answer
returns-in-Err-clause-answer g c =
    let w = wanted_of (texts_of c.args.words.now) in
    prints_nothing_for _ (design_name w) (plan_name w) (IsAnswerTo w) _ _
