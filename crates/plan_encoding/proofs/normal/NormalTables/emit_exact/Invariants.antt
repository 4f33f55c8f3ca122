use Rattle.std.proofs.Common.{◌≡◌, flat_map, drop}
use Rattle.normal_clause_spec.specs.Clauses.{exactly}
use Rattle.plan_encoding.specs.Sinks.{emitted}
use Rattle.plan_encoding.specs.Normal.{all_exact, normal_numbered_clauses}
use Rattle.plan_encoding.specs.Encoders.{over}
use Rattle.plan_encoding.proofs.normal.NormalTables.emit_exact.Given as goal

-- what is left to list makes all of it
abbrev pub invariant-loop-command : goal.invariant-loop-command
invariant-loop-command l =
    emitted l.sink (normal_numbered_clauses l.self.normal.encoder (flat_map (over l.self.normal.encoder exactly) (drop l.command-index l.command-items)))
    ≡ emitted l.fn.sink (normal_numbered_clauses l.self.normal.encoder (all_exact l.self.normal.encoder))
