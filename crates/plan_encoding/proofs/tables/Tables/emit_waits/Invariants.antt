use Rattle.live_clause_spec.specs.Listed.{live_waits}
use Rattle.std.proofs.Common.{◌≡◌, flat_map, drop}
use Rattle.plan_encoding.specs.Sinks.{emitted}
use Rattle.plan_encoding.specs.Families.{all_wait}
use Rattle.plan_encoding.specs.Encoders.{among, commands, table, numbered_clauses}
use Rattle.plan_encoding.proofs.Tabled.{each_pair}
use Rattle.plan_encoding.proofs.tables.Tables.emit_waits.Given as goal

-- what is left to list makes all of it
abbrev pub invariant-loop-command : goal.invariant-loop-command
invariant-loop-command l =
    emitted l.sink (numbered_clauses l.self.encoder (flat_map (λ e. flat_map (among l.self.encoder live_waits) (each_pair (table l.self.encoder) (commands l.self.encoder) e)) (drop l.command-index l.command-items)))
    ≡ emitted l.fn.sink (numbered_clauses l.self.encoder (all_wait l.self.encoder))
