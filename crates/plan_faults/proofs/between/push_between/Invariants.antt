use Rattle.std.proofs.Common.{◌≡◌, ◌++◌, drop, filter}
use Rattle.plan_faults.specs.Kept.{is_given_between}
use Rattle.plan_faults.proofs.between.push_between.Given as goal

abbrev pub invariant-loop-command : goal.invariant-loop-command
invariant-loop-command l = l.given.items ++ filter (is_given_between l.plan.steps l.first l.last) (drop l.command-index l.step)
    ≡ l.fn.given.items ++ filter (is_given_between l.plan.steps l.first l.last) l.step
