use Rattle.std.proofs.Common.{◌≡◌, ◌+◌, ◌-◌, ◌++◌, ◌∷◌, map}
use Rattle.rail_base.specs.Numbering.{count_from}
use Rattle.clause_spec.specs.Variables.{Given, no, if_given}
use Rattle.clause_spec.specs.Clauses.{not_at_once}
use Rattle.plan_encoding.specs.Sinks.{emitted}
use Rattle.plan_encoding.specs.Encoders.{numbered_clauses}
use Rattle.plan_encoding.proofs.encoder.Encoder.emit_apart_of.Given as goal

-- what is left to list makes all of it
abbrev pub invariant-loop-step : goal.invariant-loop-step
invariant-loop-step l = emitted l.sink (numbered_clauses l.self (map (λ i. no (Given l.first i) ∷ if_given l.first (i - 1) ++ no (Given l.second i) ∷ if_given l.second (i - 1)) (count_from l.step (l.self.steps.count + 1 - l.step)))) ≡ emitted l.fn.sink (numbered_clauses l.self (not_at_once l.self.interlocking.now.design.station l.self.interlocking.now.routes l.self.steps.count (l.first, l.second)))
