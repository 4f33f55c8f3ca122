use Rattle.std.proofs.Common.{◌≡◌, true, rules, subst}
use Rattle.interlocking.specs.declared.railway.Interlocking.{Interlocking}
use Rattle.rail_base.specs.Admission.{is_admitted}
use Rattle.rail_base.specs.declared.station.Station.{Station}
use Rattle.cli_shell.specs.Answers.{design_in}
use Rattle.design_cli.specs.Answers.{text_answer}
use Rattle.design_cli.proofs.Reading.{gives_none, no_memory, no_memory_for, one_design, text_printed, text_refused}
use Rattle.design_cli.proofs.replies.text_reply.Goals as goal

pub returns-in_err-interlocking-clause-replies : goal.returns-in_err-interlocking-clause-replies
returns-in_err-interlocking-clause-replies c = text_refused c.from_residual.result (λ (i : Interlocking). i.design.station) c.in_err-interlocking.field-0.0 c.args.text.now (search rules) c.in_err-interlocking.ensures.reads

pub returns-in_err-interlocking-clause-admitted : goal.returns-in_err-interlocking-clause-admitted
returns-in_err-interlocking-clause-admitted c = λ d reads. gives_none c.from_residual.result (λ (i : Interlocking). i.design.station) c.in_err-interlocking.field-0.0 (design_in c.args.text.now) d (is_admitted d ≡ true) (search rules) c.in_err-interlocking.ensures.reads reads

pub returns-in_err-reply-clause-replies : goal.returns-in_err-reply-clause-replies
returns-in_err-reply-clause-replies c = no_memory c.from_residual-in_err-reply.result (text_answer c.args.text.now) (search rules)

pub returns-in_err-reply-clause-admitted : goal.returns-in_err-reply-clause-admitted
returns-in_err-reply-clause-admitted c = λ d reads. no_memory_for c.from_residual-in_err-reply.result (is_admitted d ≡ true) (search rules)

pub returns-clause-replies : goal.returns-clause-replies
returns-clause-replies c = text_printed c.args.text.now c.in_ok-interlocking.interlocking.design.station c.in_ok-reply.reply c.in_ok-interlocking.ensures.reads c.in_ok-reply.ensures

pub returns-clause-admitted : goal.returns-clause-admitted
returns-clause-admitted c = λ d reads. subst (λ (e : Station). is_admitted e ≡ true) (one_design c.args.text.now d c.in_ok-interlocking.interlocking.design.station reads c.in_ok-interlocking.ensures.reads) c.in_ok-interlocking.interlocking.design.admitted
