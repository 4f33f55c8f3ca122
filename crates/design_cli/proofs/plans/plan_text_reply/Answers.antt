use Rattle.std.proofs.Common.{rules}
use Rattle.design_cli.specs.Answers.{plan_text_answer}
use Rattle.design_cli.proofs.Reading.{no_memory, plan_is_printed, plan_refused}
use Rattle.design_cli.proofs.plans.plan_text_reply.Goals as goal

pub returns-in_err-plan-clause-replies : goal.returns-in_err-plan-clause-replies
returns-in_err-plan-clause-replies c = plan_refused c.from_residual.result c.args.form c.args.interlocking.now.design.station c.in_err-plan.field-0.0 c.args.text.now (search rules) c.in_err-plan.ensures.reads

pub returns-in_err-reply-clause-replies : goal.returns-in_err-reply-clause-replies
returns-in_err-reply-clause-replies c = no_memory c.from_residual-in_err-reply.result (plan_text_answer c.args.form c.args.interlocking.now.design.station c.args.text.now) (search rules)

pub returns-clause-replies : goal.returns-clause-replies
returns-clause-replies c = plan_is_printed c.args.form c.args.interlocking.now.design.station c.args.text.now c.in_ok-plan.plan.steps c.in_ok-reply.reply c.in_ok-plan.ensures.reads c.in_ok-reply.ensures
