use Rattle.std.proofs.Common.{◌++◌, sym, subst, ◌∙◌}
use Rattle.plan_encoding.specs.Sinks.{FaultSays}
use Rattle.plan_encoding.specs.Families.{all_stay, all_start_rightly, none_excluded}
use Rattle.plan_encoding.proofs.Emission.{handed_on}
use Rattle.plan_encoding.proofs.Sequences.{last_ok, last_err, then_rest, then_fails}
use Rattle.plan_encoding.proofs.tables.Tables.emit_alone.Goals as goal

pub returns-in_err-emit_stays-clause-err : goal.returns-in_err-emit_stays-clause-err
returns-in_err-emit_stays-clause-err c =
    handed_on _ c.from_residual.result c.in_err-emit_stays.field-0.0 c.from_residual.ensures.1
    (then_fails c.args.self.now.encoder ((all_stay c.args.self.now.encoder) ++ (all_start_rightly c.args.self.now.encoder)) (none_excluded c.args.self.now.encoder) c.args.sink.now c.in_err-emit_stays.field-0.0
    (then_fails c.args.self.now.encoder (all_stay c.args.self.now.encoder) (all_start_rightly c.args.self.now.encoder) c.args.sink.now c.in_err-emit_stays.field-0.0 c.in_err-emit_stays.ensures.err))

pub returns-in_err-emit_starts-clause-err : goal.returns-in_err-emit_starts-clause-err
returns-in_err-emit_starts-clause-err c =
    handed_on _ c.from_residual-in_err-emit_starts.result c.in_err-emit_starts.field-0.0 c.from_residual-in_err-emit_starts.ensures.1
    (then_fails c.args.self.now.encoder ((all_stay c.args.self.now.encoder) ++ (all_start_rightly c.args.self.now.encoder)) (none_excluded c.args.self.now.encoder) c.args.sink.now c.in_err-emit_starts.field-0.0
    (subst (λ l. FaultSays l c.in_err-emit_starts.field-0.0) (then_rest c.args.self.now.encoder (all_stay c.args.self.now.encoder) (all_start_rightly c.args.self.now.encoder) c.args.sink.now c.emit_stays.new.sink c.in_ok-emit_stays.ensures.ok) c.in_err-emit_starts.ensures.err))

pub returns-clause-ok : goal.returns-clause-ok
returns-clause-ok c =
    last_ok _ _ c.emit_excluded.result (then_rest c.args.self.now.encoder ((all_stay c.args.self.now.encoder) ++ (all_start_rightly c.args.self.now.encoder)) (none_excluded c.args.self.now.encoder) c.args.sink.now c.emit_starts.new.sink (sym (then_rest c.args.self.now.encoder (all_stay c.args.self.now.encoder) (all_start_rightly c.args.self.now.encoder) c.args.sink.now c.emit_stays.new.sink c.in_ok-emit_stays.ensures.ok) ∙ c.in_ok-emit_starts.ensures.ok)) c.emit_excluded.new.sink c.emit_excluded.ensures.ok

pub returns-clause-err : goal.returns-clause-err
returns-clause-err c =
    last_err _ _ c.emit_excluded.result (then_rest c.args.self.now.encoder ((all_stay c.args.self.now.encoder) ++ (all_start_rightly c.args.self.now.encoder)) (none_excluded c.args.self.now.encoder) c.args.sink.now c.emit_starts.new.sink (sym (then_rest c.args.self.now.encoder (all_stay c.args.self.now.encoder) (all_start_rightly c.args.self.now.encoder) c.args.sink.now c.emit_stays.new.sink c.in_ok-emit_stays.ensures.ok) ∙ c.in_ok-emit_starts.ensures.ok)) c.emit_excluded.ensures.err
