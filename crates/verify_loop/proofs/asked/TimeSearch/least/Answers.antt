use Rattle.std.proofs.Common.{◌*◌, sym, ◌∙◌}
use Rattle.greatest_time.proofs.InTime.{later_time}
use Rattle.verify_loop.proofs.asked.TimeSearch.least.Goals as goal

pub returns-in-Ok : goal.returns-in-Ok
returns-in-Ok c =
    let d = c.args.interlocking.design.station in (
      c.in-Ok.ensures ∙ sym (later_time d c.args.self.now.within c.requires.from_1 c.requires.there 0 (c.args.ticks * d.tick_ms)),
      c.requires.time,
      c.requires.least,
    )
