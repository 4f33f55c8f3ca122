use Rattle.live_clause_spec.specs.Listed.{live_in_turn}
use Rattle.plan_encoding.specs.Encoders.{among}
use Rattle.plan_encoding.proofs.Emission.{emitted_next, next_fails, next_member, handed_on}
use Rattle.plan_encoding.proofs.Tabled.{in_get}
use Rattle.plan_encoding.proofs.encoder.Encoder.emit_turns.Goals as goal

pub emit_turns_of-requires-clause-earlier : goal.emit_turns_of-requires-clause-earlier
emit_turns_of-requires-clause-earlier c = (c.requires _ (in_get c.args.pairs.now c.loop-pair.pair-index (record { 0 = 0 }, record { 0 = 0 }) c.loop-pair-test.true)).0

pub emit_turns_of-requires-clause-later : goal.emit_turns_of-requires-clause-later
emit_turns_of-requires-clause-later c = (c.requires _ (in_get c.args.pairs.now c.loop-pair.pair-index (record { 0 = 0 }, record { 0 = 0 }) c.loop-pair-test.true)).1

pub returns-in_err-emit_turns_of-clause-err : goal.returns-in_err-emit_turns_of-clause-err
returns-in_err-emit_turns_of-clause-err c =
    handed_on _ c.from_residual.result c.in_err-emit_turns_of.field-0.0 c.from_residual.ensures.1
    (next_fails c.args.self.now _ _ _ (next_member (among c.args.self.now live_in_turn) c.args.pairs.now c.loop-pair.pair-index (record { 0 = 0 }, record { 0 = 0 }) c.loop-pair-test.true) c.loop-pair.sink _ _ c.in_err-emit_turns_of.ensures.err c.loop-pair.invariant)

pub loop-pair-preserved : goal.loop-pair-preserved
loop-pair-preserved c =
    emitted_next c.args.self.now _ _ _ (next_member (among c.args.self.now live_in_turn) c.args.pairs.now c.loop-pair.pair-index (record { 0 = 0 }, record { 0 = 0 }) c.loop-pair-test.true) c.loop-pair.sink c.emit_turns_of.new.sink _ c.in_ok-emit_turns_of.ensures.ok c.loop-pair.invariant
