use Rattle.std.proofs.Common.{rules}
use Rattle.rail_cli.proofs.Finding.{failed_so, failed_refuses}
use Rattle.rail_cli.proofs.TimeLeaving.{failed_times, settled_times}
use Rattle.rail_cli.proofs.least.settle.Goals as goal

pub returns-in_err-keep-clause-replies : goal.returns-in_err-keep-clause-replies
returns-in_err-keep-clause-replies g c = failed_so c.in_err-keep.field-0.0 c.from_residual-in_err-keep.result _ (search rules) c.in_err-keep.ensures.fails

pub returns-in_err-keep-clause-refuses : goal.returns-in_err-keep-clause-refuses
returns-in_err-keep-clause-refuses g c = failed_refuses c.in_err-keep.field-0.0 c.from_residual-in_err-keep.result (search rules) c.in_err-keep.ensures.fails

pub returns-in_err-keep-clause-stored : goal.returns-in_err-keep-clause-stored
returns-in_err-keep-clause-stored g c = λ files name d reply_for parsed good there says.
    failed_times files c.args.steps.count c.args.within name c.args.proof.now _ says.0 d c.requires.from_1 there good c.args.steps.at_most_256 parsed c.args.budgets c.requires.room c.from_residual-in_err-keep.result c.in_err-keep.field-0.0 c.args.found.now (search rules) says.1 (c.in_err-keep.ensures.stored files reply_for)

pub returns-clause-stored : goal.returns-clause-stored
returns-clause-stored g c = λ files name d reply_for parsed good there says.
    settled_times files c.args.steps.count c.args.within name c.args.proof.now _ says.0 d c.requires.from_1 there good c.args.steps.at_most_256 parsed c.args.budgets c.requires.room c.args.found.now c.in_ok-reply.reply says.1 (c.in_ok-keep.ensures.stored files reply_for) c.in_ok-reply.ensures

pub returns-in_err-reply-clause-uses : goal.returns-in_err-reply-clause-uses
returns-in_err-reply-clause-uses g c = record { cause = (search rules); never_falls = (search rules); asks = (search rules) }
