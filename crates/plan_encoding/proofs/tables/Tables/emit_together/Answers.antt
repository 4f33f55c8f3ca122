use Rattle.plan_encoding.specs.Families.{all_apart, all_wait}
use Rattle.plan_encoding.proofs.Emission.{handed_on}
use Rattle.plan_encoding.proofs.Sequences.{last_ok, last_err, then_rest, then_fails}
use Rattle.plan_encoding.proofs.tables.Tables.emit_together.Goals as goal

pub returns-in_err-emit_apart-clause-err : goal.returns-in_err-emit_apart-clause-err
returns-in_err-emit_apart-clause-err c =
    handed_on _ c.from_residual.result c.in_err-emit_apart.field-0.0 c.from_residual.ensures.1
    (then_fails c.args.self.now.encoder (all_apart c.args.self.now.encoder) (all_wait c.args.self.now.encoder) c.args.sink.now c.in_err-emit_apart.field-0.0 c.in_err-emit_apart.ensures.err)

pub returns-clause-ok : goal.returns-clause-ok
returns-clause-ok c =
    last_ok _ _ c.emit_waits.result (then_rest c.args.self.now.encoder (all_apart c.args.self.now.encoder) (all_wait c.args.self.now.encoder) c.args.sink.now c.emit_apart.new.sink c.in_ok-emit_apart.ensures.ok) c.emit_waits.new.sink c.emit_waits.ensures.ok

pub returns-clause-err : goal.returns-clause-err
returns-clause-err c =
    last_err _ _ c.emit_waits.result (then_rest c.args.self.now.encoder (all_apart c.args.self.now.encoder) (all_wait c.args.self.now.encoder) c.args.sink.now c.emit_apart.new.sink c.in_ok-emit_apart.ensures.ok) c.emit_waits.ensures.err
