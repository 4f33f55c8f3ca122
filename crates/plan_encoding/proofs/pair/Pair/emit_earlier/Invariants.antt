use Rattle.std.proofs.Common.{◌≡◌, ◌+◌, ◌-◌, map}
use Rattle.rail_base.specs.Numbering.{count_from}
use Rattle.plan_encoding.specs.Sinks.{emitted}
use Rattle.plan_encoding.specs.Orders.{all_earlier, earlier}
use Rattle.plan_encoding.specs.Encoders.{numbered_clauses}
use Rattle.plan_encoding.proofs.pair.Pair.emit_earlier.Given as goal

-- what is left to list makes all of it
abbrev pub invariant-loop-step : goal.invariant-loop-step
invariant-loop-step l =
    emitted l.sink (numbered_clauses l.self.encoder (map (earlier l.self) (count_from l.step (l.self.encoder.steps.count + 1 - l.step))))
    ≡ emitted l.fn.sink (numbered_clauses l.self.encoder (all_earlier l.self))
