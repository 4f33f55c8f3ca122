use Rattle.std.proofs.Common.{rules}
use Rattle.rail_cli.proofs.Finding.{comes_shown}
use Rattle.rail_cli.proofs.searching.make_reply.Goals as goal

pub plan_found-requires : goal.plan_found-requires
plan_found-requires c = comes_shown c.args.design.now.station c.args.steps c.args.budgets c.args.found.now c.in-Plan.plan c.in-Plan.verdict (search rules) c.requires
