use Rattle.std.proofs.Common.{◌≡◌, ◌+◌, drop}
use Rattle.clause_spec.specs.Clauses.{in_order}
use Rattle.plan_encoding.specs.Sinks.{emitted}
use Rattle.plan_encoding.specs.Families.{each_with}
use Rattle.plan_encoding.specs.Encoders.{over, numbered_clauses}
use Rattle.plan_encoding.specs.Orders.{orders_of}
use Rattle.plan_encoding.proofs.pair.Contenders.emit_orders_of.Given as goal

-- the number is that of the last pair, and what is left to list makes all of it
abbrev pub invariant-loop-second : goal.invariant-loop-second
invariant-loop-second l = record {
  counted : l.variable ≡ l.self.last + l.second-index;
  left : emitted l.sink (numbered_clauses l.self.encoder (each_with (over l.self.encoder in_order) l.self.first (drop l.second-index l.rivals))) ≡ emitted l.fn.sink (numbered_clauses l.self.encoder (orders_of l.self));
}
