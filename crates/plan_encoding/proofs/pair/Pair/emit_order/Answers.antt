use Rattle.std.proofs.Common.{◌++◌, [], ◌∷◌, true, ap, ◌∙◌}
use Rattle.clause_spec.specs.Variables.{Given, Before, yes, no}
use Rattle.plan_encoding.specs.Sinks.{emitted}
use Rattle.plan_encoding.specs.Orders.{all_earlier, all_first, said_by}
use Rattle.plan_encoding.specs.Encoders.{numbered_clauses}
use Rattle.plan_encoding.proofs.Emission.{emitted_next, next_fails, next_one, handed_on, two_lits}
use Rattle.plan_encoding.proofs.Sequences.{last_ok, last_err}
use Rattle.std.proofs.Common.{refl}
use Rattle.plan_encoding.proofs.pair.Pair.emit_order.Goals as goal

pub returns-in_err-emit_earlier-clause-err : goal.returns-in_err-emit_earlier-clause-err
returns-in_err-emit_earlier-clause-err c = handed_on _ c.from_residual-in_err-emit_earlier.result c.in_err-emit_earlier.field-0.0 c.from_residual-in_err-emit_earlier.ensures.1
    (next_fails c.args.self.now.encoder (all_earlier c.args.self.now ++ all_first c.args.self.now) (all_earlier c.args.self.now) (all_first c.args.self.now) (record { is = refl }) c.emit.new.self c.in_err-emit_earlier.field-0.0 (emitted c.args.sink.now (numbered_clauses c.args.self.now.encoder (said_by c.args.self.now))) c.in_err-emit_earlier.ensures.err (next_one c.args.self.now.encoder (said_by c.args.self.now) (all_earlier c.args.self.now ++ all_first c.args.self.now) (no (Before c.args.self.now.first c.args.self.now.second) ∷ yes (Given c.args.self.now.second c.args.self.now.encoder.steps.count) ∷ []) (record { is = refl }) (c.fails.result ∷ c.given_lit.result ∷ []) (two_lits _ _ _ _ (c.fails.ensures ∙ ap (λ v. record { var = v; negated = true }) c.args.self.now.number) c.given_lit.ensures) c.args.sink.now c.emit.new.self (emitted c.args.sink.now (numbered_clauses c.args.self.now.encoder (said_by c.args.self.now))) c.in_ok-emit.ensures.ok refl))

pub returns-clause-ok : goal.returns-clause-ok
returns-clause-ok c = last_ok (emitted c.args.sink.now (numbered_clauses c.args.self.now.encoder (said_by c.args.self.now))) _ c.emit_before.result (emitted_next c.args.self.now.encoder (all_earlier c.args.self.now ++ all_first c.args.self.now) (all_earlier c.args.self.now) (all_first c.args.self.now) (record { is = refl }) c.emit.new.self c.emit_earlier.new.sink (emitted c.args.sink.now (numbered_clauses c.args.self.now.encoder (said_by c.args.self.now))) c.in_ok-emit_earlier.ensures.ok (next_one c.args.self.now.encoder (said_by c.args.self.now) (all_earlier c.args.self.now ++ all_first c.args.self.now) (no (Before c.args.self.now.first c.args.self.now.second) ∷ yes (Given c.args.self.now.second c.args.self.now.encoder.steps.count) ∷ []) (record { is = refl }) (c.fails.result ∷ c.given_lit.result ∷ []) (two_lits _ _ _ _ (c.fails.ensures ∙ ap (λ v. record { var = v; negated = true }) c.args.self.now.number) c.given_lit.ensures) c.args.sink.now c.emit.new.self (emitted c.args.sink.now (numbered_clauses c.args.self.now.encoder (said_by c.args.self.now))) c.in_ok-emit.ensures.ok refl)) c.emit_before.new.sink c.emit_before.ensures.ok

pub returns-clause-err : goal.returns-clause-err
returns-clause-err c = last_err (emitted c.args.sink.now (numbered_clauses c.args.self.now.encoder (said_by c.args.self.now))) _ c.emit_before.result (emitted_next c.args.self.now.encoder (all_earlier c.args.self.now ++ all_first c.args.self.now) (all_earlier c.args.self.now) (all_first c.args.self.now) (record { is = refl }) c.emit.new.self c.emit_earlier.new.sink (emitted c.args.sink.now (numbered_clauses c.args.self.now.encoder (said_by c.args.self.now))) c.in_ok-emit_earlier.ensures.ok (next_one c.args.self.now.encoder (said_by c.args.self.now) (all_earlier c.args.self.now ++ all_first c.args.self.now) (no (Before c.args.self.now.first c.args.self.now.second) ∷ yes (Given c.args.self.now.second c.args.self.now.encoder.steps.count) ∷ []) (record { is = refl }) (c.fails.result ∷ c.given_lit.result ∷ []) (two_lits _ _ _ _ (c.fails.ensures ∙ ap (λ v. record { var = v; negated = true }) c.args.self.now.number) c.given_lit.ensures) c.args.sink.now c.emit.new.self (emitted c.args.sink.now (numbered_clauses c.args.self.now.encoder (said_by c.args.self.now))) c.in_ok-emit.ensures.ok refl)) c.emit_before.ensures.err
