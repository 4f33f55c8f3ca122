use Rattle.plan_encoding.proofs.Over.{no_as, of_design}
use Rattle.std.proofs.Common.{◌-◌, [], ◌∷◌, sym, ap, ◌∙◌}
use Rattle.plan_encoding.specs.Sinks.{emitted}
use Rattle.plan_encoding.specs.Normal.{normal_numbered_clauses}
use Rattle.plan_encoding.proofs.Emission.{two_lits}
use Rattle.plan_encoding.proofs.Sequences.{last_ok, last_err}
use Rattle.plan_encoding.proofs.Keeping.{not_before_is}
use Rattle.plan_encoding.proofs.normal.NormalEncoder.emit_not_before.Goals as goal

pub returns-clause-ok : goal.returns-clause-ok
returns-clause-ok c =
    last_ok _ _ c.emit.result (ap (λ ls. emitted c.args.sink.now (ls ∷ [])) (two_lits _ _ _ _ c.not_in_lit.ensures (c.not_given_lit.ensures ∙ no_as c.args.self.now.encoder c.args.self.now.every_command c.args.command (c.args.step - 1) (of_design c.args.self.now.encoder c.args.command c.requires.command))) ∙ sym (ap (λ cs. emitted c.args.sink.now (normal_numbered_clauses c.args.self.now.encoder cs)) (not_before_is c.args.self.now.encoder.interlocking.now.design.station c.args.self.now.encoder.interlocking.now.routes c.args.self.now.encoder.steps.count c.args.command c.args.step c.requires.at_least_one c.if-step-eq1.false))) c.emit.new.self c.emit.ensures.ok

pub returns-clause-err : goal.returns-clause-err
returns-clause-err c =
    last_err _ _ c.emit.result (ap (λ ls. emitted c.args.sink.now (ls ∷ [])) (two_lits _ _ _ _ c.not_in_lit.ensures (c.not_given_lit.ensures ∙ no_as c.args.self.now.encoder c.args.self.now.every_command c.args.command (c.args.step - 1) (of_design c.args.self.now.encoder c.args.command c.requires.command))) ∙ sym (ap (λ cs. emitted c.args.sink.now (normal_numbered_clauses c.args.self.now.encoder cs)) (not_before_is c.args.self.now.encoder.interlocking.now.design.station c.args.self.now.encoder.interlocking.now.routes c.args.self.now.encoder.steps.count c.args.command c.args.step c.requires.at_least_one c.if-step-eq1.false))) c.emit.ensures.err
