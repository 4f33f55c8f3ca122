use Rattle.std.proofs.Common.{◌≡◌, ◌-◌, map}
use Rattle.rail_base.specs.Numbering.{count_from}
use Rattle.plan_encoding.specs.Sinks.{emitted}
use Rattle.plan_encoding.specs.Orders.{all_first, first_given}
use Rattle.plan_encoding.specs.Encoders.{numbered_clauses}
use Rattle.plan_encoding.proofs.pair.Pair.emit_before.Given as goal

-- what is left to list makes all of it
abbrev pub invariant-loop-step : goal.invariant-loop-step
invariant-loop-step l =
    emitted l.sink (numbered_clauses l.self.encoder (map (first_given l.self) (count_from l.step (l.self.encoder.steps.count - l.step))))
    ≡ emitted l.fn.sink (numbered_clauses l.self.encoder (all_first l.self))
