use Rattle.std.proofs.Common.{◌≡◌, ◌+◌, ◌*◌, ◌≤◌, flat_map, drop, length}
use Rattle.plan_encoding.proofs.Tabled.{each_pair}
use Rattle.clause_spec.specs.Clauses.{in_order}
use Rattle.plan_encoding.specs.Sinks.{emitted}
use Rattle.plan_encoding.specs.Families.{all_in_order}
use Rattle.plan_encoding.specs.Encoders.{commands, over, table, numbered_clauses}
use Rattle.plan_encoding.proofs.Ordering.{pairs_to}
use Rattle.plan_encoding.proofs.tables.Tables.emit_orders.Given as goal

-- the number is that of the last pair so far, the pairs so far are few since each has its literals in the sink, and what is left to list makes all of it
abbrev pub invariant-loop-command : goal.invariant-loop-command
invariant-loop-command l = record {
  counted : l.last ≡ length (commands l.self.encoder) * l.self.encoder.steps.count + length (pairs_to (commands l.self.encoder) (table l.self.encoder) l.command-index);
  few : length (pairs_to (commands l.self.encoder) (table l.self.encoder) l.command-index) ≤ 8000000;
  spent : 2 * length (pairs_to (commands l.self.encoder) (table l.self.encoder) l.command-index) ≤ l.sink.literals;
  left : emitted l.sink (numbered_clauses l.self.encoder (flat_map (λ e. flat_map (over l.self.encoder in_order) (each_pair (table l.self.encoder) (commands l.self.encoder) e)) (drop l.command-index l.commands)))
      ≡ emitted l.fn.sink (numbered_clauses l.self.encoder (all_in_order l.self.encoder));
}
