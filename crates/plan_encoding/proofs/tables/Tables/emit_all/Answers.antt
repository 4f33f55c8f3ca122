use Rattle.plan_encoding.proofs.Over.{families_are}
use Rattle.std.proofs.Common.{◌++◌, sym, ap, subst, ◌∙◌}
use Rattle.plan_encoding.specs.Sinks.{FaultSays, emitted}
use Rattle.plan_encoding.specs.Families.{all_apart, all_wait, all_visits, all_in_order, all_by_steps, alone, together, defining}
use Rattle.plan_encoding.specs.Encoders.{numbered_clauses}
use Rattle.plan_encoding.proofs.Emission.{handed_on}
use Rattle.plan_encoding.proofs.Sequences.{in_a_row, last_ok, last_err, then_rest, then_fails}
use Rattle.plan_encoding.proofs.tables.Tables.emit_all.Goals as goal

pub returns-in_err-emit_alone-clause-err : goal.returns-in_err-emit_alone-clause-err
returns-in_err-emit_alone-clause-err c =
    handed_on _ c.from_residual.result c.in_err-emit_alone.field-0.0 c.from_residual.ensures.1
    (subst (λ cs. FaultSays (emitted c.args.sink.now (numbered_clauses c.args.self.now.encoder cs)) c.in_err-emit_alone.field-0.0) (in_a_row (alone c.args.self.now.encoder) (all_apart c.args.self.now.encoder) (all_wait c.args.self.now.encoder) (all_visits c.args.self.now.encoder) (all_in_order c.args.self.now.encoder) (all_by_steps c.args.self.now.encoder) ∙ families_are c.args.self.now.encoder)
    (then_fails c.args.self.now.encoder ((alone c.args.self.now.encoder) ++ (together c.args.self.now.encoder)) (defining c.args.self.now.encoder) c.args.sink.now c.in_err-emit_alone.field-0.0
    (then_fails c.args.self.now.encoder (alone c.args.self.now.encoder) (together c.args.self.now.encoder) c.args.sink.now c.in_err-emit_alone.field-0.0 c.in_err-emit_alone.ensures.err)))

pub returns-in_err-emit_together-clause-err : goal.returns-in_err-emit_together-clause-err
returns-in_err-emit_together-clause-err c =
    handed_on _ c.from_residual-in_err-emit_together.result c.in_err-emit_together.field-0.0 c.from_residual-in_err-emit_together.ensures.1
    (subst (λ cs. FaultSays (emitted c.args.sink.now (numbered_clauses c.args.self.now.encoder cs)) c.in_err-emit_together.field-0.0) (in_a_row (alone c.args.self.now.encoder) (all_apart c.args.self.now.encoder) (all_wait c.args.self.now.encoder) (all_visits c.args.self.now.encoder) (all_in_order c.args.self.now.encoder) (all_by_steps c.args.self.now.encoder) ∙ families_are c.args.self.now.encoder)
    (then_fails c.args.self.now.encoder ((alone c.args.self.now.encoder) ++ (together c.args.self.now.encoder)) (defining c.args.self.now.encoder) c.args.sink.now c.in_err-emit_together.field-0.0
    (subst (λ l. FaultSays l c.in_err-emit_together.field-0.0) (then_rest c.args.self.now.encoder (alone c.args.self.now.encoder) (together c.args.self.now.encoder) c.args.sink.now c.emit_alone.new.sink c.in_ok-emit_alone.ensures.ok) c.in_err-emit_together.ensures.err)))

pub returns-clause-ok : goal.returns-clause-ok
returns-clause-ok c =
    last_ok _ _ c.emit_defining.result (then_rest c.args.self.now.encoder ((alone c.args.self.now.encoder) ++ (together c.args.self.now.encoder)) (defining c.args.self.now.encoder) c.args.sink.now c.emit_together.new.sink (sym (then_rest c.args.self.now.encoder (alone c.args.self.now.encoder) (together c.args.self.now.encoder) c.args.sink.now c.emit_alone.new.sink c.in_ok-emit_alone.ensures.ok) ∙ c.in_ok-emit_together.ensures.ok) ∙ ap (λ cs. emitted c.args.sink.now (numbered_clauses c.args.self.now.encoder cs)) (in_a_row (alone c.args.self.now.encoder) (all_apart c.args.self.now.encoder) (all_wait c.args.self.now.encoder) (all_visits c.args.self.now.encoder) (all_in_order c.args.self.now.encoder) (all_by_steps c.args.self.now.encoder) ∙ families_are c.args.self.now.encoder)) c.emit_defining.new.sink c.emit_defining.ensures.ok

pub returns-clause-err : goal.returns-clause-err
returns-clause-err c =
    last_err _ _ c.emit_defining.result (then_rest c.args.self.now.encoder ((alone c.args.self.now.encoder) ++ (together c.args.self.now.encoder)) (defining c.args.self.now.encoder) c.args.sink.now c.emit_together.new.sink (sym (then_rest c.args.self.now.encoder (alone c.args.self.now.encoder) (together c.args.self.now.encoder) c.args.sink.now c.emit_alone.new.sink c.in_ok-emit_alone.ensures.ok) ∙ c.in_ok-emit_together.ensures.ok) ∙ ap (λ cs. emitted c.args.sink.now (numbered_clauses c.args.self.now.encoder cs)) (in_a_row (alone c.args.self.now.encoder) (all_apart c.args.self.now.encoder) (all_wait c.args.self.now.encoder) (all_visits c.args.self.now.encoder) (all_in_order c.args.self.now.encoder) (all_by_steps c.args.self.now.encoder) ∙ families_are c.args.self.now.encoder)) c.emit_defining.ensures.err
