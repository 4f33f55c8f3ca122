use Rattle.std.proofs.Common.{◌≡◌, ℕ, ◌+◌, ◌-◌, flat_map, ap, arith}
use Rattle.rail_base.specs.Numbering.{count_from}
use Rattle.normal_clause_spec.specs.Clauses.{exactly_in}
use Rattle.plan_encoding.specs.Sinks.{emitted}
use Rattle.plan_encoding.specs.Normal.{normal_numbered_clauses}
use Rattle.plan_encoding.specs.Encoders.{over}
use Rattle.plan_encoding.proofs.Emission.{normal_next, normal_fails, next_count, handed_on}
use Rattle.plan_encoding.proofs.normal.NormalEncoder.emit_exact_of.Goals as goal

pub loop-step-init : goal.loop-step-init
loop-step-init c = ap (λ m. emitted c.args.sink.now (normal_numbered_clauses c.args.self.now.encoder (flat_map (over c.args.self.now.encoder exactly_in c.args.command) (count_from 1 m)))) (less c.args.self.now.encoder.steps.count)
  where
    less : (n : ℕ) → n + 1 - 1 ≡ n
    less n = omega arith

pub returns-in_err-emit_exact_in-clause-err : goal.returns-in_err-emit_exact_in-clause-err
returns-in_err-emit_exact_in-clause-err c =
    handed_on _ c.from_residual.result c.in_err-emit_exact_in.field-0.0 c.from_residual.ensures.1
    (normal_fails c.args.self.now.encoder _ _ _ (next_count (over c.args.self.now.encoder exactly_in c.args.command) c.loop-step.step (c.args.self.now.encoder.steps.count + 1) c.loop-step-test.true) c.loop-step.sink _ _ c.in_err-emit_exact_in.ensures.err c.loop-step.invariant)

pub loop-step-preserved : goal.loop-step-preserved
loop-step-preserved c =
    normal_next c.args.self.now.encoder _ _ _ (next_count (over c.args.self.now.encoder exactly_in c.args.command) c.loop-step.step (c.args.self.now.encoder.steps.count + 1) c.loop-step-test.true) c.loop-step.sink c.emit_exact_in.new.sink _ c.in_ok-emit_exact_in.ensures.ok c.loop-step.invariant
