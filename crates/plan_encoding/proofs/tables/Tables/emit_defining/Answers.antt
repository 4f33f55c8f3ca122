use Rattle.std.proofs.Common.{◌++◌, sym, subst, ◌∙◌}
use Rattle.plan_encoding.specs.Sinks.{FaultSays}
use Rattle.plan_encoding.specs.Families.{all_visits, all_in_order, all_by_steps}
use Rattle.plan_encoding.proofs.Emission.{handed_on}
use Rattle.plan_encoding.proofs.Sequences.{last_ok, last_err, then_rest, then_fails}
use Rattle.plan_encoding.proofs.tables.Tables.emit_defining.Goals as goal

pub returns-in_err-emit_visits-clause-err : goal.returns-in_err-emit_visits-clause-err
returns-in_err-emit_visits-clause-err c =
    handed_on _ c.from_residual.result c.in_err-emit_visits.field-0.0 c.from_residual.ensures.1
    (then_fails c.args.self.now.encoder ((all_visits c.args.self.now.encoder) ++ (all_in_order c.args.self.now.encoder)) (all_by_steps c.args.self.now.encoder) c.args.sink.now c.in_err-emit_visits.field-0.0
    (then_fails c.args.self.now.encoder (all_visits c.args.self.now.encoder) (all_in_order c.args.self.now.encoder) c.args.sink.now c.in_err-emit_visits.field-0.0 c.in_err-emit_visits.ensures.err))

pub returns-in_err-last-clause-err : goal.returns-in_err-last-clause-err
returns-in_err-last-clause-err c =
    handed_on _ c.from_residual-in_err-last.result c.in_err-last.field-0.0 c.from_residual-in_err-last.ensures.1
    (then_fails c.args.self.now.encoder ((all_visits c.args.self.now.encoder) ++ (all_in_order c.args.self.now.encoder)) (all_by_steps c.args.self.now.encoder) c.args.sink.now c.in_err-last.field-0.0
    (subst (λ l. FaultSays l c.in_err-last.field-0.0) (then_rest c.args.self.now.encoder (all_visits c.args.self.now.encoder) (all_in_order c.args.self.now.encoder) c.args.sink.now c.emit_visits.new.sink c.in_ok-emit_visits.ensures.ok) c.in_err-last.ensures.err))

pub returns-clause-ok : goal.returns-clause-ok
returns-clause-ok c =
    last_ok _ _ c.emit_by_steps.result (then_rest c.args.self.now.encoder ((all_visits c.args.self.now.encoder) ++ (all_in_order c.args.self.now.encoder)) (all_by_steps c.args.self.now.encoder) c.args.sink.now c.emit_orders.new.sink (sym (then_rest c.args.self.now.encoder (all_visits c.args.self.now.encoder) (all_in_order c.args.self.now.encoder) c.args.sink.now c.emit_visits.new.sink c.in_ok-emit_visits.ensures.ok) ∙ c.in_ok-last.ensures.ok)) c.emit_by_steps.new.sink c.emit_by_steps.ensures.ok

pub returns-clause-err : goal.returns-clause-err
returns-clause-err c =
    last_err _ _ c.emit_by_steps.result (then_rest c.args.self.now.encoder ((all_visits c.args.self.now.encoder) ++ (all_in_order c.args.self.now.encoder)) (all_by_steps c.args.self.now.encoder) c.args.sink.now c.emit_orders.new.sink (sym (then_rest c.args.self.now.encoder (all_visits c.args.self.now.encoder) (all_in_order c.args.self.now.encoder) c.args.sink.now c.emit_visits.new.sink c.in_ok-emit_visits.ensures.ok) ∙ c.in_ok-last.ensures.ok)) c.emit_by_steps.ensures.err
