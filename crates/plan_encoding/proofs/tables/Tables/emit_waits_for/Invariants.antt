use Rattle.std.proofs.Common.{◌≡◌, map, flat_map, drop}
use Rattle.live_clause_spec.specs.Listed.{live_waits}
use Rattle.command_set.specs.Commands.{is_among}
use Rattle.plan_encoding.specs.Sinks.{emitted}
use Rattle.plan_encoding.specs.Encoders.{commands, numbered_clauses}
use Rattle.plan_encoding.proofs.tables.Tables.emit_waits_for.Given as goal

-- what is left to list makes all of it
abbrev pub invariant-loop-second : goal.invariant-loop-second
invariant-loop-second l = emitted l.sink (numbered_clauses l.fn.self.encoder (flat_map (live_waits (is_among (commands l.fn.self.encoder)) l.fn.self.encoder.interlocking.now.design.station l.fn.self.encoder.interlocking.now.routes l.fn.self.encoder.steps.count) (map (λ c. (l.fn.first, c)) (drop l.second-index l.rivals)))) ≡ emitted l.fn.sink (numbered_clauses l.fn.self.encoder (flat_map (live_waits (is_among (commands l.fn.self.encoder)) l.fn.self.encoder.interlocking.now.design.station l.fn.self.encoder.interlocking.now.routes l.fn.self.encoder.steps.count) (map (λ c. (l.fn.first, c)) l.rivals)))
