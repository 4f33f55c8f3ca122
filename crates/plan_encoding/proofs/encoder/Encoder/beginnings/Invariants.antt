use Rattle.std.proofs.Common.{◌≡◌, ◌++◌, drop, filter}
use Rattle.alike_clause_spec.specs.Turns.{begins}
use Rattle.live_clause_spec.specs.Listed.{live_beginnings}
use Rattle.plan_encoding.specs.Encoders.{among, over}
use Rattle.plan_encoding.proofs.encoder.Encoder.beginnings.Given as goal

-- what is put and what is left to put make all of it
abbrev pub invariant-loop-route : goal.invariant-loop-route
invariant-loop-route l =
    l.routes.items ++ filter (over l.self begins l.train) (drop l.route-index l.route-items) ≡ among l.self live_beginnings l.train
