use Rattle.std.proofs.Common.{◌≡◌, ◌++◌, drop, filter}
use Rattle.live_clause_spec.specs.Listed.{is_live_for}
use Rattle.command_set.specs.Commands.{is_among}
use Rattle.plan_encoding.specs.Encoders.{commands}
use Rattle.plan_encoding.proofs.encoder.Encoder.routes_among.Given as goal

-- what is put and what is left to put make all of it
abbrev pub invariant-loop-route : goal.invariant-loop-route
invariant-loop-route l =
    l.among.items ++ filter (is_live_for (is_among (commands l.self)) l.train) (drop l.route-index l.routes) ≡ filter (is_live_for (is_among (commands l.self)) l.train) l.routes
