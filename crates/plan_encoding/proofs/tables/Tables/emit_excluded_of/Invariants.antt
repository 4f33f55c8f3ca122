use Rattle.std.proofs.Common.{◌≡◌, map, filter, drop}
use Rattle.clause_spec.specs.Clauses.{not_both}
use Rattle.live_clause_spec.specs.Listed.{live_excluded}
use Rattle.command_set.specs.Commands.{is_among}
use Rattle.plan_encoding.specs.Sinks.{emitted}
use Rattle.plan_encoding.specs.Encoders.{among, commands, over, numbered_clauses}
use Rattle.plan_encoding.proofs.Excluding.{both_for}
use Rattle.plan_encoding.proofs.tables.Tables.emit_excluded_of.Given as goal

-- what is left to list makes all of it
abbrev pub invariant-loop-pair : goal.invariant-loop-pair
invariant-loop-pair l =
    emitted l.sink (numbered_clauses l.self.encoder (map (over l.self.encoder not_both l.train) (filter (both_for (is_among (commands l.self.encoder)) l.train) (drop l.pair-index l.pair-items))))
    ≡ emitted l.fn.sink (numbered_clauses l.self.encoder (among l.self.encoder live_excluded l.train))
