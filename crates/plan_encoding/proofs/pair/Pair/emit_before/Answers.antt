use Rattle.std.proofs.Common.{[], ◌∷◌, false, ap, ◌∙◌}
use Rattle.plan_encoding.specs.Orders.{first_given}
use Rattle.plan_encoding.proofs.Emission.{next_one, next_one_fails, next_count_one, handed_on, four_lits}
use Rattle.plan_encoding.proofs.pair.Pair.emit_before.Goals as goal

pub returns-in_err-emit-clause-err : goal.returns-in_err-emit-clause-err
returns-in_err-emit-clause-err c =
    handed_on _ c.from_residual.result c.in_err-emit.field-0.0 c.from_residual.ensures.1
    (next_one_fails c.args.self.now.encoder _ _ _ (next_count_one (first_given c.args.self.now) c.loop-step.step (c.args.self.now.encoder.steps.count) c.loop-step-test.true) (c.holds.result ∷ c.not_given_lit.result ∷ c.given_lit.result ∷ c.not_given_lit-in-loop-step.result ∷ []) (four_lits _ _ _ _ _ _ _ _ (c.holds.ensures ∙ ap (λ v. record { var = v; negated = false }) c.args.self.now.number) c.not_given_lit.ensures c.given_lit.ensures c.not_given_lit-in-loop-step.ensures) c.loop-step.sink _ _ c.in_err-emit.ensures.err c.loop-step.invariant)

pub loop-step-preserved : goal.loop-step-preserved
loop-step-preserved c =
    next_one c.args.self.now.encoder _ _ _ (next_count_one (first_given c.args.self.now) c.loop-step.step (c.args.self.now.encoder.steps.count) c.loop-step-test.true) (c.holds.result ∷ c.not_given_lit.result ∷ c.given_lit.result ∷ c.not_given_lit-in-loop-step.result ∷ []) (four_lits _ _ _ _ _ _ _ _ (c.holds.ensures ∙ ap (λ v. record { var = v; negated = false }) c.args.self.now.number) c.not_given_lit.ensures c.given_lit.ensures c.not_given_lit-in-loop-step.ensures) c.loop-step.sink c.emit.new.self _ c.in_ok-emit.ensures.ok c.loop-step.invariant
