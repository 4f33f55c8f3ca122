use Rattle.limit_words.proofs.Making.{counted, too_many}
use Rattle.limit_words.proofs.counting.count_if_few.Goals as goal

pub returns-in-Ok : goal.returns-in-Ok
returns-in-Ok c =
    let i = c.args.interlocking.now in
    counted c.args.kind i.design.station i.routes c.args.steps c.in-Ok.base c.in-Ok.ensures.base

pub returns-in-Err-TooLarge : goal.returns-in-Err-TooLarge
returns-in-Err-TooLarge c =
    let i = c.args.interlocking.now in
    too_many c.args.kind i.design.station i.routes c.args.steps c.in-Err-TooLarge.field-0-0 c.in-Err-TooLarge.field-0 c.in-Err-TooLarge.field-0-is c.in-Err-TooLarge.ensures.fault
