use Rattle.std.proofs.Common.{◌≡◌, ◌++◌, drop}
use Rattle.command_set.specs.Commands.{commands_in}
use Rattle.live_contending.proofs.rivals.add_rivals.Given as goal

-- what is put and what is left to put make all of it
abbrev pub invariant-loop-route : goal.invariant-loop-route
invariant-loop-route l = l.rivals.items ++ commands_in l.train.0 (drop l.route-index l.row) ≡ l.fn.rivals.items ++ commands_in l.train.0 l.row
