use Rattle.std.proofs.Common.{rules}
use Rattle.rail_base.proofs.Admitting.{admitted}
use Rattle.rail_cli.proofs.Finding.{failed_so, failed_refuses}
use Rattle.rail_cli.proofs.Leaving.{failed_leaves, settled_leaves}
use Rattle.rail_cli.proofs.searching.settle.Goals as goal

pub returns-in_err-keep-clause-replies : goal.returns-in_err-keep-clause-replies
returns-in_err-keep-clause-replies g c = failed_so c.in_err-keep.field-0.0 c.from_residual-in_err-keep.result _ (search rules) c.in_err-keep.ensures.fails

pub returns-in_err-keep-clause-refuses : goal.returns-in_err-keep-clause-refuses
returns-in_err-keep-clause-refuses g c = failed_refuses c.in_err-keep.field-0.0 c.from_residual-in_err-keep.result (search rules) c.in_err-keep.ensures.fails

pub returns-in_err-keep-clause-stored : goal.returns-in_err-keep-clause-stored
returns-in_err-keep-clause-stored g c = λ files name reply_for parsed.
    failed_leaves files c.args.steps.count name c.args.proof.now _ c.requires.says.0 c.args.design.now.station c.requires.says.1 (admitted c.args.design.now.station c.args.design.now.admitted) c.args.steps.at_most_256 parsed c.args.budgets c.requires.room c.from_residual-in_err-keep.result c.in_err-keep.field-0.0 c.args.found.now (search rules) c.requires.says.2 (c.in_err-keep.ensures.stored files reply_for)

pub returns-clause-stored : goal.returns-clause-stored
returns-clause-stored g c = λ files name reply_for parsed.
    settled_leaves files c.args.steps.count name c.args.proof.now _ c.requires.says.0 c.args.design.now.station c.requires.says.1 (admitted c.args.design.now.station c.args.design.now.admitted) c.args.steps.at_most_256 parsed c.args.budgets c.requires.room c.args.found.now c.in_ok-reply.reply c.requires.says.2 (c.in_ok-keep.ensures.stored files reply_for) c.in_ok-reply.ensures

pub make_reply-requires : goal.make_reply-requires
make_reply-requires g c = (c.requires.says.0, c.requires.says.2)

pub returns-in_err-reply-clause-uses : goal.returns-in_err-reply-clause-uses
returns-in_err-reply-clause-uses g c = record { cause = (search rules); never_falls = (search rules); asks = (search rules) }
