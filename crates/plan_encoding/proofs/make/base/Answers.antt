use Rattle.std.proofs.Common.{sym, ◌∙◌}
use Rattle.plan_encoding.proofs.OfKinds.{plain_of, plain_refused}
use Rattle.plan_encoding.proofs.Over.{every_command}
use Rattle.plan_encoding.proofs.Sequences.{if_err, if_ok}
use Rattle.plan_encoding.proofs.make.base.Goals as goal

pub plain_over-requires : goal.plain_over-requires
plain_over-requires c = c.in_ok-commands.ensures.are

pub returns-clause-base : goal.returns-clause-base
returns-clause-base c =
    let i = c.args.interlocking.now in
    if_ok c.plain_over.result (plain_of i.design.station i.routes c.args.steps.count c.args.steps.at_least_one c.in_ok-commands.commands (c.in_ok-commands.ensures.value ∙ sym (every_command i.design.station i.routes c.args.steps.count))) c.plain_over.ensures.base

pub returns-clause-fault : goal.returns-clause-fault
returns-clause-fault c =
    let i = c.args.interlocking.now in
    if_err c.plain_over.result (plain_refused i.design.station i.routes c.args.steps.count c.args.steps.at_least_one c.in_ok-commands.commands (c.in_ok-commands.ensures.value ∙ sym (every_command i.design.station i.routes c.args.steps.count))) c.plain_over.ensures.fault
