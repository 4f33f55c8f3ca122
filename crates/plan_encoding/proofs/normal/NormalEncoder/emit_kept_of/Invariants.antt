use Rattle.std.proofs.Common.{◌≡◌, ◌+◌, ◌-◌, map}
use Rattle.rail_base.specs.Numbering.{count_from}
use Rattle.plan_encoding.specs.Sinks.{emitted}
use Rattle.plan_encoding.specs.Normal.{kept_always, kept_by, normal_numbered_clauses}
use Rattle.plan_encoding.proofs.normal.NormalEncoder.emit_kept_of.Given as goal

-- what is left to list makes all of it
abbrev pub invariant-loop-step : goal.invariant-loop-step
invariant-loop-step l =
    emitted l.sink (normal_numbered_clauses l.self.encoder (map (kept_by l.command l.before) (count_from l.step (l.self.encoder.steps.count + 1 - l.step))))
    ≡ emitted l.fn.sink (normal_numbered_clauses l.self.encoder (kept_always l.self.encoder l.command l.before))
