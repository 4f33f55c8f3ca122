use Rattle.std.proofs.Common.{◌≡◌, map, drop}
use Rattle.live_clause_spec.specs.Listed.{live_all_given}
use Rattle.plan_encoding.specs.Sinks.{emitted}
use Rattle.plan_encoding.specs.Families.{given_by}
use Rattle.plan_encoding.specs.Encoders.{among, numbered_clauses}
use Rattle.plan_encoding.proofs.selectors.Selectors.emit_by_step.Given as goal

-- what is left to list makes all of it
abbrev pub invariant-loop-command : goal.invariant-loop-command
invariant-loop-command l =
    emitted l.sink (numbered_clauses l.self.tables.now.encoder (map (given_by l.self.tables.now.encoder l.step) (drop l.command-index l.command-items)))
    ≡ emitted l.fn.sink (numbered_clauses l.self.tables.now.encoder (among l.self.tables.now.encoder live_all_given l.step))
