use Rattle.std.proofs.Common.{List, ap, subst, ◌∙◌}
use Rattle.normal_clause_spec.specs.Clauses.{NormalClause}
use Rattle.plan_encoding.specs.Normal.{StopsNormal, all_exact, all_kept, normal_numbered_clauses}
use Rattle.plan_encoding.specs.Sinks.{emitted}
use Rattle.plan_encoding.proofs.Emission.{handed_on}
use Rattle.plan_encoding.proofs.Keeping.{normal_are}
use Rattle.plan_encoding.proofs.Sequences.{last_ok, last_err, normal_rest, normal_then_fails}
use Rattle.plan_encoding.proofs.normal.NormalTables.emit_normal.Goals as goal

pub returns-in_err-emit_exact-clause-err : goal.returns-in_err-emit_exact-clause-err
returns-in_err-emit_exact-clause-err c =
    let f = c.args.self.now.normal.encoder in
    let e = c.in_err-emit_exact.field-0.0 in
    handed_on _ c.from_residual.result e c.from_residual.ensures.1
    (subst (λ (cs : List NormalClause). StopsNormal f cs c.args.sink.now e) (normal_are f c.args.self.now.normal.every_command)
    (normal_then_fails f (all_exact f) (all_kept f) c.args.sink.now e c.in_err-emit_exact.ensures.err))

pub returns-clause-ok : goal.returns-clause-ok
returns-clause-ok c =
    let f = c.args.self.now.normal.encoder in
    last_ok _ _ c.emit_kept.result
    (normal_rest f (all_exact f) (all_kept f) c.args.sink.now c.emit_exact.new.sink c.in_ok-emit_exact.ensures.ok
    ∙ ap (λ (cs : List NormalClause). emitted c.args.sink.now (normal_numbered_clauses f cs)) (normal_are f c.args.self.now.normal.every_command))
    c.emit_kept.new.sink c.emit_kept.ensures.ok

pub returns-clause-err : goal.returns-clause-err
returns-clause-err c =
    let f = c.args.self.now.normal.encoder in
    last_err _ _ c.emit_kept.result
    (normal_rest f (all_exact f) (all_kept f) c.args.sink.now c.emit_exact.new.sink c.in_ok-emit_exact.ensures.ok
    ∙ ap (λ (cs : List NormalClause). emitted c.args.sink.now (normal_numbered_clauses f cs)) (normal_are f c.args.self.now.normal.every_command))
    c.emit_kept.ensures.err
