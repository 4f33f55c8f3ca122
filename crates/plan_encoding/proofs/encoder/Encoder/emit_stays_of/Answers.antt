use Rattle.std.proofs.Common.{◌+◌, [], ◌∷◌}
use Rattle.clause_spec.specs.Variables.{Given, yes, no}
use Rattle.plan_encoding.proofs.Emission.{next_one, next_one_fails, next_count_one, handed_on, two_lits}
use Rattle.plan_encoding.proofs.encoder.Encoder.emit_stays_of.Goals as goal

pub returns-in_err-emit-clause-err : goal.returns-in_err-emit-clause-err
returns-in_err-emit-clause-err c =
    handed_on _ c.from_residual.result c.in_err-emit.field-0.0 c.from_residual.ensures.1
    (next_one_fails c.args.self.now _ _ _ (next_count_one (λ i. no (Given c.args.command i) ∷ yes (Given c.args.command (i + 1)) ∷ []) c.loop-step.step (c.args.self.now.steps.count) c.loop-step-test.true) (c.not_given_lit.result ∷ c.given_lit.result ∷ []) (two_lits _ _ _ _ c.not_given_lit.ensures c.given_lit.ensures) c.loop-step.sink _ _ c.in_err-emit.ensures.err c.loop-step.invariant)

pub loop-step-preserved : goal.loop-step-preserved
loop-step-preserved c =
    next_one c.args.self.now _ _ _ (next_count_one (λ i. no (Given c.args.command i) ∷ yes (Given c.args.command (i + 1)) ∷ []) c.loop-step.step (c.args.self.now.steps.count) c.loop-step-test.true) (c.not_given_lit.result ∷ c.given_lit.result ∷ []) (two_lits _ _ _ _ c.not_given_lit.ensures c.given_lit.ensures) c.loop-step.sink c.emit.new.self _ c.in_ok-emit.ensures.ok c.loop-step.invariant
