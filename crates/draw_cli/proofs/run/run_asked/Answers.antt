use Rattle.std.proofs.Common.{◌≡◌, None, Some, Err, ap, ap₂, sym, ◌∙◌}
use Rattle.named_files.proofs.Printing.{prints_nothing_for}
use Rattle.rail_words.specs.Words.{texts_of}
use Rattle.draw_cli.specs.Answers.{IsAnswerTo, design_name, plan_name}
use Rattle.draw_cli.specs.Wanted.{routes_or_simulate}
use Rattle.draw_cli.specs.Words.{asked_by, wanted_by}
use Rattle.draw_cli.proofs.Answering.{asked_for, asked_grows, usage_for_none}
use Rattle.draw_cli.proofs.Stopping.{asked_unread}
use Rattle.draw_cli.proofs.run.run_asked.Goals as goal

pub returns-in-Ok-clause-answer : goal.returns-in-Ok-clause-answer
returns-in-Ok-clause-answer g c =
    let is : asked_by c.args.both.now ≡ Some (wanted_by c.in-Ok.wanted) = ap₂ routes_or_simulate (ap texts_of (sym c.as_slice.ensures.value)) (ap texts_of (sym c.as_slice-2.ensures.value)) ∙ c.in-Ok.ensures.ok in
    asked_for c.run_wanted.result _ _ _ _ _ (asked_by c.args.both.now) (Some (wanted_by c.in-Ok.wanted)) is c.run_wanted.ensures.answer

pub returns-in-Ok-clause-unread : goal.returns-in-Ok-clause-unread
returns-in-Ok-clause-unread g c = λ fault.
    let is : asked_by c.args.both.now ≡ Some (wanted_by c.in-Ok.wanted) = ap₂ routes_or_simulate (ap texts_of (sym c.as_slice.ensures.value)) (ap texts_of (sym c.as_slice-2.ensures.value)) ∙ c.in-Ok.ensures.ok in
    asked_unread _ _ _ _ (asked_by c.args.both.now) (Some (wanted_by c.in-Ok.wanted)) is (c.run_wanted.ensures.unread fault)

pub returns-in-Ok-clause-asked : goal.returns-in-Ok-clause-asked
returns-in-Ok-clause-asked g c =
    let is : asked_by c.args.both.now ≡ Some (wanted_by c.in-Ok.wanted) = ap₂ routes_or_simulate (ap texts_of (sym c.as_slice.ensures.value)) (ap texts_of (sym c.as_slice-2.ensures.value)) ∙ c.in-Ok.ensures.ok in
    asked_grows (asked_by c.args.both.now) (Some (wanted_by c.in-Ok.wanted)) _ _ is c.run_wanted.ensures.asked

pub returns-in-Err-Usage-clause-answer : goal.returns-in-Err-Usage-clause-answer
returns-in-Err-Usage-clause-answer g c =
    let is : asked_by c.args.both.now ≡ None = ap₂ routes_or_simulate (ap texts_of (sym c.as_slice.ensures.value)) (ap texts_of (sym c.as_slice-2.ensures.value)) ∙ c.in-Err-Usage.ensures.usage (ap Err c.in-Err-Usage.field-0-is) in
    usage_for_none c.print_usage.result _ _ _ _ _ (asked_by c.args.both.now) is c.print_usage.ensures.answer

pub returns-in-Err-Usage-clause-unread : goal.returns-in-Err-Usage-clause-unread
returns-in-Err-Usage-clause-unread g c = λ fault. absurd (c.print_usage.ensures.no_shelf fault)

pub returns-in-Err-Memory-clause-answer : goal.returns-in-Err-Memory-clause-answer
returns-in-Err-Memory-clause-answer g c =
    let w = asked_by c.args.both.now in
    prints_nothing_for _ (design_name w) (plan_name w) (IsAnswerTo w) _ _
