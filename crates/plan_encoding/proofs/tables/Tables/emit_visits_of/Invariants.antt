use Rattle.live_clause_spec.specs.Listed.{live_makes_visits}
use Rattle.std.proofs.Common.{◌≡◌, ◌+◌, ◌-◌, [], map, length}
use Rattle.rail_base.specs.Numbering.{count_from, entry}
use Rattle.rail_base.specs.Stations.{train_of}
use Rattle.plan_encoding.specs.Sinks.{emitted}
use Rattle.plan_encoding.specs.Families.{visited_on}
use Rattle.plan_encoding.specs.Encoders.{among, station, numbered_clauses}
use Rattle.plan_encoding.proofs.tables.Tables.emit_visits_of.Given as goal

-- what is left to list makes all of it
abbrev pub invariant-loop-number : goal.invariant-loop-number
invariant-loop-number l =
    emitted l.sink (numbered_clauses l.self.encoder (map (λ k. visited_on l.self.encoder l.train k (entry [] (train_of (station l.self.encoder) l.train).visits k)) (count_from l.number (length (train_of (station l.self.encoder) l.train).visits + 1 - l.number))))
    ≡ emitted l.fn.sink (numbered_clauses l.self.encoder (among l.self.encoder live_makes_visits l.train))
