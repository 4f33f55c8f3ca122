use Rattle.std.proofs.Common.{flat_map, ap}
use Rattle.normal_clause_spec.specs.Clauses.{exactly}
use Rattle.plan_encoding.specs.Sinks.{emitted}
use Rattle.plan_encoding.specs.Normal.{normal_numbered_clauses}
use Rattle.plan_encoding.specs.Encoders.{over}
use Rattle.plan_encoding.proofs.Emission.{normal_next, normal_fails, next_member, handed_on}
use Rattle.plan_encoding.proofs.normal.NormalTables.emit_exact.Goals as goal

pub loop-command-init : goal.loop-command-init
loop-command-init c =
    ap (λ xs. emitted c.args.sink.now (normal_numbered_clauses c.args.self.now.normal.encoder (flat_map (over c.args.self.now.normal.encoder exactly) xs))) (c.commands-command-items.ensures.value)

pub emit_exact_of-requires : goal.emit_exact_of-requires
emit_exact_of-requires c =
    record { command = c.commands-command-items.ensures.known c.loop-command.command-index _ c.loop-command-test.true }

pub returns-in_err-emit_exact_of-clause-err : goal.returns-in_err-emit_exact_of-clause-err
returns-in_err-emit_exact_of-clause-err c =
    handed_on _ c.from_residual.result c.in_err-emit_exact_of.field-0.0 c.from_residual.ensures.1
    (normal_fails c.args.self.now.normal.encoder _ _ _ (next_member (over c.args.self.now.normal.encoder exactly) c.commands-command-items.result.now c.loop-command.command-index _ c.loop-command-test.true) c.loop-command.sink _ _ c.in_err-emit_exact_of.ensures.err c.loop-command.invariant)

pub loop-command-preserved : goal.loop-command-preserved
loop-command-preserved c =
    normal_next c.args.self.now.normal.encoder _ _ _ (next_member (over c.args.self.now.normal.encoder exactly) c.commands-command-items.result.now c.loop-command.command-index _ c.loop-command-test.true) c.loop-command.sink c.emit_exact_of.new.sink _ c.in_ok-emit_exact_of.ensures.ok c.loop-command.invariant
