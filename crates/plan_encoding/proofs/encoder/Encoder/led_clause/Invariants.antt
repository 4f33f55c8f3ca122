use Rattle.plan_encoding.specs.Encoders.{among}
use Rattle.live_clause_spec.specs.Variables.{live_numbered}
use Rattle.std.proofs.Common.{◌≡◌, ◌-◌, ◌++◌, ◌∷◌, map, flat_map, drop}
use Rattle.clause_spec.specs.Variables.{Given, no, if_given}
use Rattle.plan_encoding.proofs.encoder.Encoder.led_clause.Given as goal

-- what is put and what is left to put make all of it
abbrev pub invariant-loop-route : goal.invariant-loop-route
invariant-loop-route l = l.clause.items ++ map (among l.self live_numbered) (flat_map (λ q. if_given (record { train = l.command.train; route = q }) (l.step - 1)) (drop l.route-index l.leading)) ≡ map (among l.self live_numbered) (no (Given l.command l.step) ∷ flat_map (λ q. if_given (record { train = l.command.train; route = q }) (l.step - 1)) l.leading)
