use Rattle.std.proofs.Common.{◌≡◌, ◌+◌, ◌-◌, map}
use Rattle.rail_base.specs.Numbering.{count_from}
use Rattle.plan_encoding.specs.Sinks.{emitted}
use Rattle.plan_encoding.specs.Families.{begun_clause, begun_throughout}
use Rattle.plan_encoding.specs.Encoders.{numbered_clauses}
use Rattle.plan_encoding.proofs.encoder.Encoder.emit_begun.Given as goal

-- what is left to list makes all of it
abbrev pub invariant-loop-step : goal.invariant-loop-step
invariant-loop-step l =
    emitted l.sink (numbered_clauses l.self (map (begun_clause l.earlier l.routes l.command) (count_from l.step (l.self.steps.count + 1 - l.step))))
    ≡ emitted l.fn.sink (numbered_clauses l.self (begun_throughout l.self l.earlier l.routes l.command))
