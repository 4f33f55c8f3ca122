use Rattle.plan_encoding.specs.Waiting.{apart_once}
use Rattle.plan_encoding.proofs.Emission.{emitted_next, next_fails, next_mapped, handed_on}
use Rattle.plan_encoding.proofs.encoder.Encoder.emit_apart_from.Goals as goal

pub returns-in_err-emit_apart_once-clause-err : goal.returns-in_err-emit_apart_once-clause-err
returns-in_err-emit_apart_once-clause-err c =
    handed_on _ c.from_residual.result c.in_err-emit_apart_once.field-0.0 c.from_residual.ensures.1 (next_fails c.args.self.now _ _ _ (next_mapped (apart_once c.args.self.now.interlocking.now.design.station c.args.self.now.interlocking.now.routes c.args.self.now.steps.count) (λ s. (c.args.first, s)) c.args.rivals.now c.loop-second.second-index _ c.loop-second-test.true) c.loop-second.sink _ _ c.in_err-emit_apart_once.ensures.err c.loop-second.invariant)

pub loop-second-preserved : goal.loop-second-preserved
loop-second-preserved c =
    emitted_next c.args.self.now _ _ _ (next_mapped (apart_once c.args.self.now.interlocking.now.design.station c.args.self.now.interlocking.now.routes c.args.self.now.steps.count) (λ s. (c.args.first, s)) c.args.rivals.now c.loop-second.second-index _ c.loop-second-test.true) c.loop-second.sink c.emit_apart_once.new.sink _ c.in_ok-emit_apart_once.ensures.ok c.loop-second.invariant
