use Rattle.std.proofs.Common.{◌∙◌}
use Rattle.plan_encoding.specs.Waits.{waits_in}
use Rattle.plan_encoding.proofs.Emission.{next_one, next_one_fails, next_count_one, handed_on}
use Rattle.plan_encoding.proofs.wait.Wait.emit_wait.Goals as goal

pub returns-in_err-emit-clause-err : goal.returns-in_err-emit-clause-err
returns-in_err-emit-clause-err c =
    handed_on _ c.from_residual-in_err-emit.result c.in_err-emit.field-0.0 c.from_residual-in_err-emit.ensures.1
    (next_one_fails c.args.self.now.tables.now.encoder _ _ _ (next_count_one (waits_in c.args.self.now c.args.chain.now c.args.further.now) c.loop-step.step c.args.self.now.tables.now.encoder.steps.count c.loop-step-test.true) c.deref.result.now (c.deref.ensures.value ∙ c.in_ok-clause.ensures) c.loop-step.sink _ _ c.in_err-emit.ensures.err c.loop-step.invariant)

pub loop-step-preserved : goal.loop-step-preserved
loop-step-preserved c =
    next_one c.args.self.now.tables.now.encoder _ _ _ (next_count_one (waits_in c.args.self.now c.args.chain.now c.args.further.now) c.loop-step.step c.args.self.now.tables.now.encoder.steps.count c.loop-step-test.true) c.deref.result.now (c.deref.ensures.value ∙ c.in_ok-clause.ensures) c.loop-step.sink c.emit.new.self _ c.in_ok-emit.ensures.ok c.loop-step.invariant
