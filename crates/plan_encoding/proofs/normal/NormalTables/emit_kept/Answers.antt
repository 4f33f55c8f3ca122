use Rattle.std.proofs.Common.{◌≡◌, flat_map, ap, subst, ◌∙◌}
use Rattle.normal_clause_spec.specs.Clauses.{kept}
use Rattle.plan_encoding.specs.Sinks.{Emitted, emitted}
use Rattle.plan_encoding.specs.Normal.{StopsNormal, kept_always, normal_numbered_clauses}
use Rattle.plan_encoding.specs.Encoders.{over}
use Rattle.plan_encoding.proofs.Emission.{normal_next, normal_fails, next_member, handed_on}
use Rattle.plan_encoding.proofs.Keeping.{known_before}
use Rattle.plan_encoding.proofs.normal.NormalTables.emit_kept.Goals as goal

pub loop-command-init : goal.loop-command-init
loop-command-init c =
    ap (λ xs. emitted c.args.sink.now (normal_numbered_clauses c.args.self.now.normal.encoder (flat_map (over c.args.self.now.normal.encoder kept) xs))) (c.commands-command-items.ensures.value)

pub before-requires : goal.before-requires
before-requires c =
    record { command = c.commands-command-items.ensures.known c.loop-command.command-index _ c.loop-command-test.true }

pub emit_kept_of-requires-clause-command : goal.emit_kept_of-requires-clause-command
emit_kept_of-requires-clause-command c = c.commands-command-items.ensures.known c.loop-command.command-index _ c.loop-command-test.true

pub emit_kept_of-requires-clause-before : goal.emit_kept_of-requires-clause-before
emit_kept_of-requires-clause-before c =
    known_before c.args.self.now.normal.encoder c.args.self.now.normal.every_command _ (c.commands-command-items.ensures.known c.loop-command.command-index _ c.loop-command-test.true) _ (c.deref.ensures.value ∙ c.in_ok-before.ensures)

pub returns-in_err-emit_kept_of-clause-err : goal.returns-in_err-emit_kept_of-clause-err
returns-in_err-emit_kept_of-clause-err c =
    handed_on _ c.from_residual-in_err-emit_kept_of.result c.in_err-emit_kept_of.field-0.0 c.from_residual-in_err-emit_kept_of.ensures.1
    (normal_fails c.args.self.now.normal.encoder _ _ _ (next_member (over c.args.self.now.normal.encoder kept) c.commands-command-items.result.now c.loop-command.command-index _ c.loop-command-test.true) c.loop-command.sink _ _
    (subst (λ cs. StopsNormal c.args.self.now.normal.encoder cs c.loop-command.sink c.in_err-emit_kept_of.field-0.0) (ap (kept_always c.args.self.now.normal.encoder _) (c.deref.ensures.value ∙ c.in_ok-before.ensures)) c.in_err-emit_kept_of.ensures.err)
    c.loop-command.invariant)

pub loop-command-preserved : goal.loop-command-preserved
loop-command-preserved c =
    normal_next c.args.self.now.normal.encoder _ _ _ (next_member (over c.args.self.now.normal.encoder kept) c.commands-command-items.result.now c.loop-command.command-index _ c.loop-command-test.true) c.loop-command.sink c.emit_kept_of.new.sink _
    (subst (λ cs. emitted c.loop-command.sink (normal_numbered_clauses c.args.self.now.normal.encoder cs) ≡ Emitted c.emit_kept_of.new.sink) (ap (kept_always c.args.self.now.normal.encoder _) (c.deref.ensures.value ∙ c.in_ok-before.ensures)) c.in_ok-emit_kept_of.ensures.ok)
    c.loop-command.invariant
