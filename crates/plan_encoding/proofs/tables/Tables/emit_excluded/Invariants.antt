use Rattle.live_clause_spec.specs.Listed.{live_excluded}
use Rattle.std.proofs.Common.{◌≡◌, flat_map, drop}
use Rattle.plan_encoding.specs.Sinks.{emitted}
use Rattle.plan_encoding.specs.Families.{none_excluded}
use Rattle.plan_encoding.specs.Encoders.{among, numbered_clauses}
use Rattle.plan_encoding.proofs.tables.Tables.emit_excluded.Given as goal

-- what is left to list makes all of it
abbrev pub invariant-loop-train : goal.invariant-loop-train
invariant-loop-train l =
    emitted l.sink (numbered_clauses l.self.encoder (flat_map (among l.self.encoder live_excluded) (drop l.train-index l.train-items)))
    ≡ emitted l.fn.sink (numbered_clauses l.self.encoder (none_excluded l.self.encoder))
