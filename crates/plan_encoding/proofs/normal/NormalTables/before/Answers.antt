use Rattle.std.proofs.Common.{◌++◌, ap, ◌∙◌, arith}
use Rattle.live_contending.proofs.Tabled.{length_rows, row_is}
use Rattle.normal_clause_spec.specs.Clauses.{keepers}
use Rattle.plan_encoding.specs.Encoders.{over, table}
use Rattle.plan_encoding.specs.Normal.{commands_on}
use Rattle.plan_encoding.specs.Tables.{leading}
use Rattle.plan_encoding.proofs.normal.NormalTables.before.Goals as goal

pub row_of-requires-clause-within : goal.row_of-requires-clause-within
row_of-requires-clause-within c =
    let e = length_rows (table c.args.self.now.normal.encoder) (leading (table c.args.self.now.normal.encoder)) c.deref.result.now (c.deref.ensures.value ∙ c.args.self.now.led) in
    let r = c.requires.command.route.1 in
    omega arith

pub returns : goal.returns
returns c =
    let f = c.args.self.now.normal.encoder in
    c.in_ok-add_keepers.ensures
    ∙ ap (λ cs. cs ++ over f keepers c.args.command)
    (c.in_ok-add_commands.ensures
    ∙ (ap (λ cs. cs ++ commands_on c.args.command.train c.row_of.result.now) c.new-commands.ensures.items
    ∙ ap (commands_on c.args.command.train) (c.row_of.ensures ∙ row_is (table f) (leading (table f)) c.deref.result.now (c.deref.ensures.value ∙ c.args.self.now.led) c.args.command.route c.requires.command.route)))
