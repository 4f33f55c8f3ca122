use Rattle.std.proofs.Common.{◌≡◌, ◌++◌, drop}
use Rattle.plan_encoding.specs.Normal.{commands_on}
use Rattle.plan_encoding.proofs.kept.add_commands.Given as goal

-- what is added and what is left to add make all of it
abbrev pub invariant-loop-route : goal.invariant-loop-route
invariant-loop-route l = l.commands.items ++ commands_on l.train (drop l.route-index l.routes) ≡ l.fn.commands.items ++ commands_on l.train l.routes
