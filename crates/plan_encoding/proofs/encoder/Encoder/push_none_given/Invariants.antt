use Rattle.plan_encoding.specs.Encoders.{among}
use Rattle.live_clause_spec.specs.Variables.{live_numbered}
use Rattle.std.proofs.Common.{◌≡◌, ◌++◌, map, drop}
use Rattle.clause_spec.specs.Variables.{Given, no}
use Rattle.plan_encoding.proofs.encoder.Encoder.push_none_given.Given as goal

-- what is put and what is left to put make all of it
abbrev pub invariant-loop-route : goal.invariant-loop-route
invariant-loop-route l = l.clause.items ++ map (among l.self live_numbered) (map (λ w. no (Given (record { train = l.train; route = w }) l.step)) (drop l.route-index l.routes)) ≡ l.fn.clause.items ++ map (among l.self live_numbered) (map (λ w. no (Given (record { train = l.train; route = w }) l.step)) l.routes)
