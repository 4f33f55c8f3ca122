use Rattle.std.proofs.Common.{true, [], ap, subst}
use Rattle.plan_encoding.specs.declared.encoder.Encoder.{Encoder}
use Rattle.plan_encoding.specs.Bases.{plain_clauses}
use Rattle.plan_encoding.specs.Encoders.{Emits, Stops, among, numbered_clauses}
use Rattle.plan_encoding.specs.Sinks.{SinkView}
use Rattle.plan_encoding.proofs.Based.{fails_alike}
use Rattle.plan_encoding.proofs.Emission.{handed_on}
use Rattle.plan_encoding.proofs.encoder.Encoder.emit_twice.Goals as goal

pub returns-in_err-emit_all-clause-err : goal.returns-in_err-emit_all-clause-err
returns-in_err-emit_all-clause-err c =
    let f = c.args.self.now in
    let e = c.in_err-emit_all.field-0.0 in
    let empty : SinkView = record { keep = true; literals = 0; clauses = [] } in
    handed_on (Stops f (among f plain_clauses) empty) c.from_residual-in_err-emit_all.result e c.from_residual-in_err-emit_all.ensures.1
    (fails_alike c.new-count.result empty (numbered_clauses f (among f plain_clauses)) e (ap (λ (s : SinkView). s.literals) c.new-count.ensures)
    (subst (λ (g : Encoder). Stops g (among g plain_clauses) c.new-count.result e) c.in_ok-tables.ensures c.in_err-emit_all.ensures.err))

pub returns-in_err-emit_all-2-clause-err : goal.returns-in_err-emit_all-2-clause-err
returns-in_err-emit_all-2-clause-err c =
    let f = c.args.self.now in
    let e = c.in_err-emit_all-2.field-0.0 in
    handed_on (Stops f (among f plain_clauses) (record { keep = true; literals = 0; clauses = [] })) c.from_residual-in_err-emit_all-2.result e c.from_residual-in_err-emit_all-2.ensures.1
    (subst (λ (old : SinkView). Stops f (among f plain_clauses) old e) c.in_ok-sink.ensures
    (subst (λ (g : Encoder). Stops g (among g plain_clauses) c.in_ok-sink.sink e) c.in_ok-tables.ensures c.in_err-emit_all-2.ensures.err))

pub returns-clause-ok : goal.returns-clause-ok
returns-clause-ok c = subst (λ (old : SinkView). Emits c.args.self.now (among c.args.self.now plain_clauses) old c.emit_all-2.new.sink) c.in_ok-sink.ensures
    (subst (λ (f : Encoder). Emits f (among f plain_clauses) c.in_ok-sink.sink c.emit_all-2.new.sink) c.in_ok-tables.ensures c.in_ok-emit_all-2.ensures.ok)
