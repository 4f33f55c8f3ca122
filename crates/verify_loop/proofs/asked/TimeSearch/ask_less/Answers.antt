use Rattle.std.proofs.Common.{◌+◌, refl}
use Rattle.verify_loop.proofs.Leading as leading
use Rattle.verify_loop.proofs.asked.TimeSearch.ask_less.Goals as goal

pub with_ticks-requires-clause-by_horizon : goal.with_ticks-requires-clause-by_horizon
with_ticks-requires-clause-by_horizon c = leading.by_horizon c.args.self.now c.args.asked c.requires.at.0.0 c.args.plan.steps c.requires.at.1 c.args.taken c.requires.takes c.requires.some

pub returns-clause-leads_on : goal.returns-clause-leads_on
returns-clause-leads_on c =
    let r = c.requires.at in
    let p = r.0.1 in
    leading.leads_so c.args.self.now c.args.asked r.0.0 c.args.plan.steps r.1 c.args.taken c.requires.takes c.requires.some
    c.in-Ok-with_ticks.interlocking c.in-Ok-with_ticks.ensures p.0 p.1 p.2 c.args.search p.3 c.args.history c.args.tick r.2 r.3 r.4
    _ refl refl refl c.in-Ok.ensures (record { solver = c.args.search.solver; failed = c.new.result; sum = c.args.search.sum + c.args.tick; steps = c.args.search.steps; finder = c.args.search.finder }) refl c.new.ensures.items refl refl
