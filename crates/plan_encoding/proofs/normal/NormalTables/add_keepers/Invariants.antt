use Rattle.std.proofs.Common.{◌≡◌, ◌+◌, ◌-◌, ◌++◌, flat_map, length}
use Rattle.rail_base.specs.Numbering.{count_from}
use Rattle.normal_clause_spec.specs.Clauses.{keepers}
use Rattle.plan_encoding.specs.Encoders.{over, station, table}
use Rattle.plan_encoding.proofs.Keeping.{keepers_on}
use Rattle.plan_encoding.proofs.normal.NormalTables.add_keepers.Given as goal

-- what is added and what is left to add make all of it
abbrev pub invariant-loop-number : goal.invariant-loop-number
invariant-loop-number l =
    l.commands.items ++ flat_map (keepers_on (table l.self.normal.encoder) l.command l.row) (count_from l.number (length (station l.self.normal.encoder).trains + 1 - l.number))
    ≡ l.fn.commands.items ++ over l.self.normal.encoder keepers l.command
