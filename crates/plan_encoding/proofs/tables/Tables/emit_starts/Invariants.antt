use Rattle.live_clause_spec.specs.Listed.{live_starts_rightly}
use Rattle.std.proofs.Common.{◌≡◌, flat_map, drop}
use Rattle.plan_encoding.specs.Sinks.{emitted}
use Rattle.plan_encoding.specs.Families.{all_start_rightly}
use Rattle.plan_encoding.specs.Encoders.{among, numbered_clauses}
use Rattle.plan_encoding.proofs.tables.Tables.emit_starts.Given as goal

-- what is left to list makes all of it
abbrev pub invariant-loop-command : goal.invariant-loop-command
invariant-loop-command l =
    emitted l.sink (numbered_clauses l.self.encoder (flat_map (among l.self.encoder live_starts_rightly) (drop l.command-index l.command-items)))
    ≡ emitted l.fn.sink (numbered_clauses l.self.encoder (all_start_rightly l.self.encoder))
