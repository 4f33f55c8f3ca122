use Rattle.std.proofs.Common.{◌≡◌, ◌-◌, flat_map}
use Rattle.rail_base.specs.Numbering.{count_from}
use Rattle.live_clause_spec.specs.Listed.{live_all_given}
use Rattle.plan_encoding.specs.Sinks.{emitted}
use Rattle.plan_encoding.specs.Families.{all_by_steps}
use Rattle.plan_encoding.specs.Encoders.{among, numbered_clauses}
use Rattle.plan_encoding.proofs.selectors.Selectors.emit_by_steps.Given as goal

-- what is left to list makes all of it
abbrev pub invariant-loop-step : goal.invariant-loop-step
invariant-loop-step l =
    emitted l.sink (numbered_clauses l.self.tables.now.encoder (flat_map (among l.self.tables.now.encoder live_all_given) (count_from l.step (l.self.tables.now.encoder.steps.count - l.step))))
    ≡ emitted l.fn.sink (numbered_clauses l.self.tables.now.encoder (all_by_steps l.self.tables.now.encoder))
