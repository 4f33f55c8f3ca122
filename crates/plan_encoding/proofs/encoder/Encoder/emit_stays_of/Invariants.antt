use Rattle.std.proofs.Common.{◌≡◌, ◌+◌, ◌-◌, [], ◌∷◌, map}
use Rattle.rail_base.specs.Numbering.{count_from}
use Rattle.clause_spec.specs.Variables.{Given, yes, no}
use Rattle.clause_spec.specs.Clauses.{stays_given}
use Rattle.plan_encoding.specs.Sinks.{emitted}
use Rattle.plan_encoding.specs.Encoders.{numbered_clauses}
use Rattle.plan_encoding.proofs.encoder.Encoder.emit_stays_of.Given as goal

-- what is left to list makes all of it
abbrev pub invariant-loop-step : goal.invariant-loop-step
invariant-loop-step l = emitted l.sink (numbered_clauses l.self (map (λ i. no (Given l.command i) ∷ yes (Given l.command (i + 1)) ∷ []) (count_from l.step (l.self.steps.count - l.step)))) ≡ emitted l.fn.sink (numbered_clauses l.self (stays_given l.self.interlocking.now.design.station l.self.interlocking.now.routes l.self.steps.count l.command))
