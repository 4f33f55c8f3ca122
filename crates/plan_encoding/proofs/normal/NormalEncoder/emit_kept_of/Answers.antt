use Rattle.std.proofs.Common.{◌≡◌, ℕ, ◌+◌, ◌-◌, map, ap, ◌∙◌, arith}
use Rattle.rail_base.specs.Numbering.{count_from}
use Rattle.plan_encoding.specs.Sinks.{emitted}
use Rattle.plan_encoding.specs.Normal.{kept_by, normal_numbered_clauses}
use Rattle.plan_encoding.proofs.Emission.{normal_one, normal_one_fails, next_count_one, handed_on}
use Rattle.plan_encoding.proofs.normal.NormalEncoder.emit_kept_of.Goals as goal

pub loop-step-init : goal.loop-step-init
loop-step-init c = ap (λ m. emitted c.args.sink.now (normal_numbered_clauses c.args.self.now.encoder (map (kept_by c.args.command c.args.before.now) (count_from 2 m)))) (less c.args.self.now.encoder.steps.count)
  where
    less : (n : ℕ) → n + 1 - 2 ≡ n - 1
    less n = omega arith

pub returns-in_err-emit-clause-err : goal.returns-in_err-emit-clause-err
returns-in_err-emit-clause-err c =
    handed_on _ c.from_residual-in_err-emit.result c.in_err-emit.field-0.0 c.from_residual-in_err-emit.ensures.1
    (normal_one_fails c.args.self.now.encoder _ _ _ (next_count_one (kept_by c.args.command c.args.before.now) c.loop-step.step (c.args.self.now.encoder.steps.count + 1) c.loop-step-test.true) c.deref.result.now (c.deref.ensures.value ∙ c.in_ok-clause.ensures) c.loop-step.sink _ _ c.in_err-emit.ensures.err c.loop-step.invariant)

pub loop-step-preserved : goal.loop-step-preserved
loop-step-preserved c =
    normal_one c.args.self.now.encoder _ _ _ (next_count_one (kept_by c.args.command c.args.before.now) c.loop-step.step (c.args.self.now.encoder.steps.count + 1) c.loop-step-test.true) c.deref.result.now (c.deref.ensures.value ∙ c.in_ok-clause.ensures) c.loop-step.sink c.emit.new.self _ c.in_ok-emit.ensures.ok c.loop-step.invariant
