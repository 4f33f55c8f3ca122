use Rattle.std.proofs.Common.{◌≡◌, ℕ, ◌+◌, ◌-◌, ◌++◌, ◌∷◌, map, ap, ◌∙◌, arith}
use Rattle.rail_base.specs.Numbering.{count_from}
use Rattle.clause_spec.specs.Variables.{Given, no, if_given}
use Rattle.plan_encoding.specs.Sinks.{emitted}
use Rattle.plan_encoding.specs.Encoders.{numbered_clauses}
use Rattle.plan_encoding.proofs.Emission.{next_one, next_one_fails, next_count_one, handed_on}
use Rattle.plan_encoding.proofs.encoder.Encoder.emit_apart_of.Goals as goal

pub returns-in_err-emit-clause-err : goal.returns-in_err-emit-clause-err
returns-in_err-emit-clause-err c =
    handed_on _ c.from_residual-in_err-emit.result c.in_err-emit.field-0.0 c.from_residual-in_err-emit.ensures.1
    (next_one_fails c.args.self.now _ _ _ (next_count_one (λ i. no (Given c.args.first i) ∷ if_given c.args.first (i - 1) ++ no (Given c.args.second i) ∷ if_given c.args.second (i - 1)) c.loop-step.step (c.args.self.now.steps.count + 1) c.loop-step-test.true) (c.deref.result.now) (c.deref.ensures.value ∙ c.in_ok-clause.ensures) c.loop-step.sink _ _ c.in_err-emit.ensures.err c.loop-step.invariant)

pub loop-step-preserved : goal.loop-step-preserved
loop-step-preserved c =
    next_one c.args.self.now _ _ _ (next_count_one (λ i. no (Given c.args.first i) ∷ if_given c.args.first (i - 1) ++ no (Given c.args.second i) ∷ if_given c.args.second (i - 1)) c.loop-step.step (c.args.self.now.steps.count + 1) c.loop-step-test.true) (c.deref.result.now) (c.deref.ensures.value ∙ c.in_ok-clause.ensures) c.loop-step.sink c.emit.new.self _ c.in_ok-emit.ensures.ok c.loop-step.invariant

pub loop-step-init : goal.loop-step-init
loop-step-init c = ap (λ m. emitted c.args.sink.now (numbered_clauses c.args.self.now (map (λ i. no (Given c.args.first i) ∷ if_given c.args.first (i - 1) ++ no (Given c.args.second i) ∷ if_given c.args.second (i - 1)) (count_from 1 m)))) (less c.args.self.now.steps.count)
  where
    less : (n : ℕ) → n + 1 - 1 ≡ n
    less n = omega arith
