use Rattle.std.proofs.Common.{◌≡◌, ◌++◌, drop}
use Rattle.rail_spec.specs.Plans.{routes_given}
use Rattle.plan_faults.proofs.commands.push_given.Given as goal

abbrev pub invariant-loop-command : goal.invariant-loop-command
invariant-loop-command l = l.routes.items ++ routes_given l.train (drop l.command-index l.step) ≡ l.fn.routes.items ++ routes_given l.train l.step
