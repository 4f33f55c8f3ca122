use Rattle.why_cli.proofs.Reading.{text_told}
use Rattle.why_cli.proofs.explaining.text_explained.Goals as goal

pub returns-clause-replies : goal.returns-clause-replies
returns-clause-replies c =
    let d = c.args.interlocking.now.design.station in
    text_told c.args.in_time c.args.design_text.now c.args.steps.count d c.args.text.now c.in_ok-said.said c.in_ok-reply.reply c.in_ok-said.ensures.reads c.in_ok-said.ensures.said c.in_ok-reply.ensures
