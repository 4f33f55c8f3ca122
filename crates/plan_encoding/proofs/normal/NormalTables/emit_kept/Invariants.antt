use Rattle.std.proofs.Common.{◌≡◌, flat_map, drop}
use Rattle.normal_clause_spec.specs.Clauses.{kept}
use Rattle.plan_encoding.specs.Sinks.{emitted}
use Rattle.plan_encoding.specs.Normal.{all_kept, normal_numbered_clauses}
use Rattle.plan_encoding.specs.Encoders.{over}
use Rattle.plan_encoding.proofs.normal.NormalTables.emit_kept.Given as goal

-- what is left to list makes all of it
abbrev pub invariant-loop-command : goal.invariant-loop-command
invariant-loop-command l =
    emitted l.sink (normal_numbered_clauses l.self.normal.encoder (flat_map (over l.self.normal.encoder kept) (drop l.command-index l.command-items)))
    ≡ emitted l.fn.sink (normal_numbered_clauses l.self.normal.encoder (all_kept l.self.normal.encoder))
