use Rattle.std.proofs.Common.{◌≡◌, ◌-◌, map}
use Rattle.rail_base.specs.Numbering.{count_from}
use Rattle.plan_encoding.specs.Sinks.{emitted}
use Rattle.plan_encoding.specs.Encoders.{numbered_clauses}
use Rattle.plan_encoding.specs.Waits.{waits_at, waits_in}
use Rattle.plan_encoding.proofs.wait.Wait.emit_wait.Given as goal

-- what is left to list makes all of it
abbrev pub invariant-loop-step : goal.invariant-loop-step
invariant-loop-step l =
    emitted l.sink (numbered_clauses l.self.tables.now.encoder (map (waits_in l.self l.chain l.further) (count_from l.step (l.self.tables.now.encoder.steps.count - l.step))))
    ≡ emitted l.fn.sink (numbered_clauses l.self.tables.now.encoder (waits_at l.self l.chain l.further))
