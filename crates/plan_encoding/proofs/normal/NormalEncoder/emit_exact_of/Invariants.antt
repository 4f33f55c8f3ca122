use Rattle.std.proofs.Common.{◌≡◌, ◌+◌, ◌-◌, flat_map}
use Rattle.rail_base.specs.Numbering.{count_from}
use Rattle.normal_clause_spec.specs.Clauses.{exactly, exactly_in}
use Rattle.plan_encoding.specs.Sinks.{emitted}
use Rattle.plan_encoding.specs.Normal.{normal_numbered_clauses}
use Rattle.plan_encoding.specs.Encoders.{over}
use Rattle.plan_encoding.proofs.normal.NormalEncoder.emit_exact_of.Given as goal

-- what is left to list makes all of it
abbrev pub invariant-loop-step : goal.invariant-loop-step
invariant-loop-step l =
    emitted l.sink (normal_numbered_clauses l.self.encoder (flat_map (over l.self.encoder exactly_in l.command) (count_from l.step (l.self.encoder.steps.count + 1 - l.step))))
    ≡ emitted l.fn.sink (normal_numbered_clauses l.self.encoder (over l.self.encoder exactly l.command))
