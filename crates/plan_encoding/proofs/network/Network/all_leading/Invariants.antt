use Rattle.std.proofs.Common.{◌≡◌, ◌++◌, map, drop}
use Rattle.plan_encoding.specs.Encoders.{table}
use Rattle.plan_encoding.specs.Tables.{leading, rows_by}
use Rattle.plan_encoding.proofs.network.Network.all_leading.Given as goal

-- what is found and what is left to find make all of it
abbrev pub invariant-loop-number : goal.invariant-loop-number
invariant-loop-number l = l.rows.items ++ map (leading (table l.self.encoder)) (drop l.number-index l.number-items) ≡ rows_by leading (table l.self.encoder)
