use Rattle.std.proofs.Common.{arith}
use Rattle.clause_spec.specs.Clauses.{in_order}
use Rattle.plan_encoding.proofs.Emission.{emitted_next, next_fails, next_mapped, handed_on}
use Rattle.plan_encoding.proofs.pair.Contenders.emit_orders_of.Goals as goal

pub returns-in_err-emit_order-clause-err : goal.returns-in_err-emit_order-clause-err
returns-in_err-emit_order-clause-err c =
    handed_on _ c.from_residual.result c.in_err-emit_order.field-0.0 c.from_residual.ensures.1 (next_fails c.args.self.now.encoder _ _ _ (next_mapped (in_order c.args.self.now.encoder.interlocking.now.design.station c.args.self.now.encoder.interlocking.now.routes c.args.self.now.encoder.steps.count) (λ s. (c.args.self.now.first, s)) c.args.self.now.rivals.now c.loop-second.second-index _ c.loop-second-test.true) c.loop-second.sink _ _ c.in_err-emit_order.ensures.err c.loop-second.invariant.left)

pub overflow_add-variable : goal.overflow_add-variable
overflow_add-variable c =
    let e = c.loop-second.invariant.counted in let r = c.args.self.now.room in let t = c.loop-second-test.true in omega arith

pub loop-second-preserved : goal.loop-second-preserved
loop-second-preserved c =
    record { counted = (let e = c.loop-second.invariant.counted in omega arith); left = emitted_next c.args.self.now.encoder _ _ _ (next_mapped (in_order c.args.self.now.encoder.interlocking.now.design.station c.args.self.now.encoder.interlocking.now.routes c.args.self.now.encoder.steps.count) (λ s. (c.args.self.now.first, s)) c.args.self.now.rivals.now c.loop-second.second-index _ c.loop-second-test.true) c.loop-second.sink c.emit_order.new.sink _ c.in_ok-emit_order.ensures.ok c.loop-second.invariant.left }
