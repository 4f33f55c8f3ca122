use Rattle.std.proofs.Common.{rules, Ok}
use Rattle.rail_base.specs.declared.plan.Plan.{Plan}
use Rattle.cli_shell.specs.declared.reply.Reply.{Reply}
use Rattle.cli_shell.specs.Answers.{plan_in}
use Rattle.cli_shell.specs.Replies.{reply_seen}
use Rattle.draw_cli.specs.Answers.{IsRunDrawing, PlanAnswers}
use Rattle.draw_cli.proofs.Answering.{read_so, refused_so, wanting}
use Rattle.draw_cli.proofs.drawn.run_in.Goals as goal

pub returns-in_err-plan-clause-replies : goal.returns-in_err-plan-clause-replies
returns-in_err-plan-clause-replies c =
    let d = c.args.interlocking.now.design.station in
    refused_so c.from_residual.result (λ (p : Plan). p.steps) c.in_err-plan.field-0.0 (plan_in d c.args.text.now) (IsRunDrawing d) (search rules) c.in_err-plan.ensures.reads

pub returns-in_err-run_drawn-clause-replies : goal.returns-in_err-run_drawn-clause-replies
returns-in_err-run_drawn-clause-replies c = wanting c.from_residual-in_err-run_drawn.result (λ (reply : Reply). PlanAnswers c.args.interlocking.now.design.station c.args.text.now (reply_seen reply)) (search rules)

pub returns-clause-replies : goal.returns-clause-replies
returns-clause-replies c =
    let d = c.args.interlocking.now.design.station in
    read_so (Ok c.in_ok-run_drawn.field-0) (plan_in d c.args.text.now) c.in_ok-plan.plan.steps (IsRunDrawing d) c.in_ok-plan.ensures.reads c.in_ok-run_drawn.ensures
