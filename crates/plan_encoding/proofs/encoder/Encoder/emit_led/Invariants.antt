use Rattle.std.proofs.Common.{◌≡◌, ◌+◌, ◌-◌, ◌∷◌, map, flat_map}
use Rattle.rail_base.specs.Numbering.{count_from, one_to}
use Rattle.clause_spec.specs.Variables.{Given, no, if_given}
use Rattle.plan_encoding.specs.Sinks.{emitted}
use Rattle.plan_encoding.specs.Encoders.{numbered_clauses}
use Rattle.plan_encoding.proofs.encoder.Encoder.emit_led.Given as goal

-- what is left to list makes all of it
abbrev pub invariant-loop-step : goal.invariant-loop-step
invariant-loop-step l = emitted l.sink (numbered_clauses l.self (map (λ i. no (Given l.command i) ∷ flat_map (λ q. if_given (record { train = l.command.train; route = q }) (i - 1)) l.leading) (count_from l.step (l.self.steps.count + 1 - l.step)))) ≡ emitted l.fn.sink (numbered_clauses l.self (map (λ i. no (Given l.command i) ∷ flat_map (λ q. if_given (record { train = l.command.train; route = q }) (i - 1)) l.leading) (one_to l.self.steps.count)))
