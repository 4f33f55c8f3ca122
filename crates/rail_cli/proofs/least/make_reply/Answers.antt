use Rattle.std.proofs.Common.{◌≡◌, rules, sym, subst}
use Rattle.verify_loop.specs.declared.least_time.Tightest.{Tightest}
use Rattle.verify_loop.specs.declared.least_time.Tightest.TheVariants.{Least}
use Rattle.verify_loop.specs.Lessening.{untimed}
use Rattle.verify_loop.specs.Tightening.{IsTightest}
use Rattle.cli_shell.specs.Replies.{RepliesWith}
use Rattle.rail_cli.specs.Answers.{reply_for_time}
use Rattle.rail_cli.proofs.LeastTicks.{least_by_horizon, least_shown}
use Rattle.rail_cli.proofs.least.make_reply.Goals as goal

pub least_found-requires-clause-by_horizon : goal.least_found-requires-clause-by_horizon
least_found-requires-clause-by_horizon c =
    let h = c.requires.says in
    let i = c.in-Least in
    let is : c.args.found.now ≡ Least i.interlocking i.ticks i.plan i.verdict i.log = search rules in
    least_by_horizon h.0 h.1 c.args.within c.requires.from_1 h.2 c.args.steps c.args.budgets i.interlocking i.ticks i.plan i.verdict i.log
    (subst (λ (found : Tightest). IsTightest h.0 (untimed h.1 c.args.within) c.args.within c.args.steps c.args.budgets found) is h.3)

pub least_found-requires-clause-shown : goal.least_found-requires-clause-shown
least_found-requires-clause-shown c =
    let h = c.requires.says in
    let i = c.in-Least in
    let is : c.args.found.now ≡ Least i.interlocking i.ticks i.plan i.verdict i.log = search rules in
    least_shown h.0 h.1 c.args.within c.requires.from_1 h.2 c.args.steps c.args.budgets i.interlocking i.ticks i.plan i.verdict i.log
    (subst (λ (found : Tightest). IsTightest h.0 (untimed h.1 c.args.within) c.args.within c.args.steps c.args.budgets found) is h.3)

pub returns-in-Least : goal.returns-in-Least
returns-in-Least c =
    let i = c.in-Least in
    let is : c.args.found.now ≡ Least i.interlocking i.ticks i.plan i.verdict i.log = search rules in
    subst (λ (found : Tightest). RepliesWith c.least_found.result (reply_for_time c.args.within c.args.steps c.args.budgets.conflicts c.args.budgets.ticks found)) (sym is) c.least_found.ensures
