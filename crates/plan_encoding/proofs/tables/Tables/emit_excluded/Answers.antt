use Rattle.live_clause_spec.specs.Listed.{live_excluded}
use Rattle.std.proofs.Common.{flat_map, ap, ◌∙◌}
use Rattle.plan_encoding.specs.Sinks.{emitted}
use Rattle.plan_encoding.specs.Encoders.{among, numbered_clauses}
use Rattle.plan_encoding.proofs.Emission.{emitted_next, next_fails, next_member, handed_on}
use Rattle.plan_encoding.proofs.Tabled.{known_trains}
use Rattle.plan_encoding.proofs.tables.Tables.emit_excluded.Goals as goal

pub loop-train-init : goal.loop-train-init
loop-train-init c =
    ap (λ xs. emitted c.args.sink.now (numbered_clauses c.args.self.now.encoder (flat_map (among c.args.self.now.encoder live_excluded) xs))) (c.deref-train-items.ensures.value ∙ c.args.self.now.every_train)

pub emit_excluded_of-requires : goal.emit_excluded_of-requires
emit_excluded_of-requires c =
    record { train = known_trains c.args.self.now c.deref-train-items.result.now c.deref-train-items.ensures.value c.loop-train.train-index _ c.loop-train-test.true }

pub returns-in_err-emit_excluded_of-clause-err : goal.returns-in_err-emit_excluded_of-clause-err
returns-in_err-emit_excluded_of-clause-err c =
    handed_on _ c.from_residual.result c.in_err-emit_excluded_of.field-0.0 c.from_residual.ensures.1
    (next_fails c.args.self.now.encoder _ _ _ (next_member (among c.args.self.now.encoder live_excluded) c.deref-train-items.result.now c.loop-train.train-index _ c.loop-train-test.true) c.loop-train.sink _ _ c.in_err-emit_excluded_of.ensures.err c.loop-train.invariant)

pub loop-train-preserved : goal.loop-train-preserved
loop-train-preserved c =
    emitted_next c.args.self.now.encoder _ _ _ (next_member (among c.args.self.now.encoder live_excluded) c.deref-train-items.result.now c.loop-train.train-index _ c.loop-train-test.true) c.loop-train.sink c.emit_excluded_of.new.sink _ c.in_ok-emit_excluded_of.ensures.ok c.loop-train.invariant
