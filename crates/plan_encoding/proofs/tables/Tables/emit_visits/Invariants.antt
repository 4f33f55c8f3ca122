use Rattle.live_clause_spec.specs.Listed.{live_makes_visits}
use Rattle.std.proofs.Common.{◌≡◌, flat_map, drop}
use Rattle.plan_encoding.specs.Sinks.{emitted}
use Rattle.plan_encoding.specs.Families.{all_visits}
use Rattle.plan_encoding.specs.Encoders.{among, numbered_clauses}
use Rattle.plan_encoding.proofs.tables.Tables.emit_visits.Given as goal

-- what is left to list makes all of it
abbrev pub invariant-loop-train : goal.invariant-loop-train
invariant-loop-train l =
    emitted l.sink (numbered_clauses l.self.encoder (flat_map (among l.self.encoder live_makes_visits) (drop l.train-index l.train-items)))
    ≡ emitted l.fn.sink (numbered_clauses l.self.encoder (all_visits l.self.encoder))
