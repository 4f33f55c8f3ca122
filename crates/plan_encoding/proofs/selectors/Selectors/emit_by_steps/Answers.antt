use Rattle.live_clause_spec.specs.Listed.{live_all_given}
use Rattle.plan_encoding.specs.Encoders.{among}
use Rattle.plan_encoding.proofs.Emission.{emitted_next, next_fails, next_count, handed_on}
use Rattle.plan_encoding.proofs.selectors.Selectors.emit_by_steps.Goals as goal

pub returns-in_err-emit_by_step-clause-err : goal.returns-in_err-emit_by_step-clause-err
returns-in_err-emit_by_step-clause-err c =
    handed_on _ c.from_residual.result c.in_err-emit_by_step.field-0.0 c.from_residual.ensures.1
    (next_fails c.args.self.now.tables.now.encoder _ _ _ (next_count (among c.args.self.now.tables.now.encoder live_all_given) c.loop-step.step c.args.self.now.tables.now.encoder.steps.count c.loop-step-test.true) c.loop-step.sink _ _ c.in_err-emit_by_step.ensures.err c.loop-step.invariant)

pub loop-step-preserved : goal.loop-step-preserved
loop-step-preserved c =
    emitted_next c.args.self.now.tables.now.encoder _ _ _ (next_count (among c.args.self.now.tables.now.encoder live_all_given) c.loop-step.step c.args.self.now.tables.now.encoder.steps.count c.loop-step-test.true) c.loop-step.sink c.emit_by_step.new.sink _ c.in_ok-emit_by_step.ensures.ok c.loop-step.invariant
