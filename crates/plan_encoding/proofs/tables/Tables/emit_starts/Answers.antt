use Rattle.live_clause_spec.specs.Listed.{live_starts_rightly}
use Rattle.std.proofs.Common.{flat_map, ap}
use Rattle.plan_encoding.specs.Sinks.{emitted}
use Rattle.plan_encoding.specs.Encoders.{among, numbered_clauses}
use Rattle.plan_encoding.proofs.Emission.{emitted_next, next_fails, next_member, handed_on}
use Rattle.plan_encoding.proofs.tables.Tables.emit_starts.Goals as goal

pub loop-command-init : goal.loop-command-init
loop-command-init c =
    ap (λ xs. emitted c.args.sink.now (numbered_clauses c.args.self.now.encoder (flat_map (among c.args.self.now.encoder live_starts_rightly) xs))) (c.commands-command-items.ensures.value)

pub emit_starts_of-requires : goal.emit_starts_of-requires
emit_starts_of-requires c =
    record { command = c.commands-command-items.ensures.known c.loop-command.command-index _ c.loop-command-test.true }

pub returns-in_err-emit_starts_of-clause-err : goal.returns-in_err-emit_starts_of-clause-err
returns-in_err-emit_starts_of-clause-err c =
    handed_on _ c.from_residual.result c.in_err-emit_starts_of.field-0.0 c.from_residual.ensures.1
    (next_fails c.args.self.now.encoder _ _ _ (next_member (among c.args.self.now.encoder live_starts_rightly) c.commands-command-items.result.now c.loop-command.command-index _ c.loop-command-test.true) c.loop-command.sink _ _ c.in_err-emit_starts_of.ensures.err c.loop-command.invariant)

pub loop-command-preserved : goal.loop-command-preserved
loop-command-preserved c =
    emitted_next c.args.self.now.encoder _ _ _ (next_member (among c.args.self.now.encoder live_starts_rightly) c.commands-command-items.result.now c.loop-command.command-index _ c.loop-command-test.true) c.loop-command.sink c.emit_starts_of.new.sink _ c.in_ok-emit_starts_of.ensures.ok c.loop-command.invariant
