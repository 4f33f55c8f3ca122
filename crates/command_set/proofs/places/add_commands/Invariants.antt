use Rattle.std.proofs.Common.{◌≡◌, ◌++◌, drop}
use Rattle.command_set.specs.Commands.{commands_in}
use Rattle.command_set.proofs.places.add_commands.Given as goal

-- what is put and what is left to put make all of it
abbrev pub invariant-loop-route : goal.invariant-loop-route
invariant-loop-route l = l.commands.items ++ commands_in l.train.0 (drop l.route-index l.row) ≡ l.fn.commands.items ++ commands_in l.train.0 l.row
