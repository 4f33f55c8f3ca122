use Rattle.plan_encoding.proofs.tables.Tables.rivals.Goals as goal

pub returns : goal.returns
returns c =
    let f = c.args.self.now.encoder in
    c.rivals.ensures.all f.interlocking.now.design.station f.interlocking.now.routes f.of_design f.paired c.requires.command.known
