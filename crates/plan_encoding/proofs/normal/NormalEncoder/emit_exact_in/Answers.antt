use Rattle.plan_encoding.proofs.Over.{yes_as, of_design}
use Rattle.std.proofs.Common.{◌≡◌, ◌-◌, ◌++◌, [], ◌∷◌, refl, ap, ◌∙◌}
use Rattle.clause_spec.specs.Variables.{Given, yes}
use Rattle.normal_clause_spec.specs.Variables.{is_not_in, of_base}
use Rattle.normal_clause_spec.specs.Clauses.{exactly_in, not_before}
use Rattle.plan_encoding.specs.Sinks.{emitted}
use Rattle.plan_encoding.specs.Encoders.{over}
use Rattle.plan_encoding.specs.Normal.{new_clause, normal_numbered_clauses}
use Rattle.plan_encoding.proofs.Emission.{handed_on, normal_fails, normal_next, normal_one, two_lits}
use Rattle.plan_encoding.proofs.Sequences.{last_ok, last_err}
use Rattle.plan_encoding.proofs.normal.NormalEncoder.emit_exact_in.Goals as goal

pub returns-clause-ok : goal.returns-clause-ok
returns-clause-ok c =
    let f = c.args.self.now.encoder in
    let e = c.args.command in
    let i = c.args.step in
    let all = emitted c.args.sink.now (normal_numbered_clauses f (over f exactly_in e i)) in
    let later : emitted c.emit.new.self (normal_numbered_clauses f (over f not_before e (i - 1) ++ new_clause e i ∷ [])) ≡ all =
    normal_one f (over f exactly_in e i) (over f not_before e (i - 1) ++ new_clause e i ∷ []) (is_not_in e i ∷ of_base (yes (Given e i)) ∷ []) (record { is = refl })
    (c.not_in_lit.result ∷ c.given_lit.result ∷ []) (two_lits _ _ _ _ c.not_in_lit.ensures (c.given_lit.ensures ∙ yes_as c.args.self.now.encoder c.args.self.now.every_command c.args.command (c.args.step) (of_design c.args.self.now.encoder c.args.command c.requires.command))) c.args.sink.now c.emit.new.self all c.in_ok-emit.ensures.ok refl in
    let last : emitted c.emit_not_before.new.sink (normal_numbered_clauses f (new_clause e i ∷ [])) ≡ all =
    normal_next f (over f not_before e (i - 1) ++ new_clause e i ∷ []) (over f not_before e (i - 1)) (new_clause e i ∷ []) (record { is = refl }) c.emit.new.self c.emit_not_before.new.sink all c.in_ok-emit_not_before.ensures.ok later in
    last_ok all _ c.emit-2.result (ap (λ ls. emitted c.emit_not_before.new.sink (ls ∷ [])) (c.deref.ensures.value ∙ c.in_ok-clause.ensures) ∙ last) c.emit-2.new.self c.emit-2.ensures.ok

pub returns-clause-err : goal.returns-clause-err
returns-clause-err c =
    let f = c.args.self.now.encoder in
    let e = c.args.command in
    let i = c.args.step in
    let all = emitted c.args.sink.now (normal_numbered_clauses f (over f exactly_in e i)) in
    let later : emitted c.emit.new.self (normal_numbered_clauses f (over f not_before e (i - 1) ++ new_clause e i ∷ [])) ≡ all =
    normal_one f (over f exactly_in e i) (over f not_before e (i - 1) ++ new_clause e i ∷ []) (is_not_in e i ∷ of_base (yes (Given e i)) ∷ []) (record { is = refl })
    (c.not_in_lit.result ∷ c.given_lit.result ∷ []) (two_lits _ _ _ _ c.not_in_lit.ensures (c.given_lit.ensures ∙ yes_as c.args.self.now.encoder c.args.self.now.every_command c.args.command (c.args.step) (of_design c.args.self.now.encoder c.args.command c.requires.command))) c.args.sink.now c.emit.new.self all c.in_ok-emit.ensures.ok refl in
    let last : emitted c.emit_not_before.new.sink (normal_numbered_clauses f (new_clause e i ∷ [])) ≡ all =
    normal_next f (over f not_before e (i - 1) ++ new_clause e i ∷ []) (over f not_before e (i - 1)) (new_clause e i ∷ []) (record { is = refl }) c.emit.new.self c.emit_not_before.new.sink all c.in_ok-emit_not_before.ensures.ok later in
    last_err all _ c.emit-2.result (ap (λ ls. emitted c.emit_not_before.new.sink (ls ∷ [])) (c.deref.ensures.value ∙ c.in_ok-clause.ensures) ∙ last) c.emit-2.ensures.err

pub returns-in_err-emit_not_before-clause-err : goal.returns-in_err-emit_not_before-clause-err
returns-in_err-emit_not_before-clause-err c =
    let f = c.args.self.now.encoder in
    let e = c.args.command in
    let i = c.args.step in
    let all = emitted c.args.sink.now (normal_numbered_clauses f (over f exactly_in e i)) in
    let later : emitted c.emit.new.self (normal_numbered_clauses f (over f not_before e (i - 1) ++ new_clause e i ∷ [])) ≡ all =
    normal_one f (over f exactly_in e i) (over f not_before e (i - 1) ++ new_clause e i ∷ []) (is_not_in e i ∷ of_base (yes (Given e i)) ∷ []) (record { is = refl })
    (c.not_in_lit.result ∷ c.given_lit.result ∷ []) (two_lits _ _ _ _ c.not_in_lit.ensures (c.given_lit.ensures ∙ yes_as c.args.self.now.encoder c.args.self.now.every_command c.args.command (c.args.step) (of_design c.args.self.now.encoder c.args.command c.requires.command))) c.args.sink.now c.emit.new.self all c.in_ok-emit.ensures.ok refl in
    handed_on _ c.from_residual-in_err-emit_not_before.result c.in_err-emit_not_before.field-0.0 c.from_residual-in_err-emit_not_before.ensures.1
    (normal_fails f (over f not_before e (i - 1) ++ new_clause e i ∷ []) (over f not_before e (i - 1)) (new_clause e i ∷ []) (record { is = refl }) c.emit.new.self c.in_err-emit_not_before.field-0.0 all c.in_err-emit_not_before.ensures.err later)
