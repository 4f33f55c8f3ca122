use Rattle.live_clause_spec.specs.Listed.{live_waits}
use Rattle.command_set.specs.Commands.{is_among}
use Rattle.live_contending.proofs.Listed.{set_by_firsts}
use Rattle.std.proofs.Common.{flat_map, sym, ap, ◌∙◌}
use Rattle.plan_encoding.specs.Sinks.{emitted}
use Rattle.plan_encoding.specs.Encoders.{among, commands, pairs_of, numbered_clauses}
use Rattle.plan_encoding.proofs.Emission.{emitted_next, next_fails, handed_on}
use Rattle.plan_encoding.proofs.Chained.{no_waits}
use Rattle.plan_encoding.proofs.Sequences.{parts_parts}
use Rattle.plan_encoding.proofs.Tabled.{each_pair, known_rivals, next_rivals}
use Rattle.plan_encoding.proofs.tables.Tables.emit_waits.Goals as goal

pub loop-command-init : goal.loop-command-init
loop-command-init c =
    ap (λ cs. emitted c.args.sink.now (numbered_clauses c.args.self.now.encoder cs))
    (ap (λ xs. flat_map (λ e. flat_map (among c.args.self.now.encoder live_waits) (each_pair c.args.self.now.encoder.interlocking.now.routes (commands c.args.self.now.encoder) e)) xs) (c.commands-command-items.ensures.value) ∙ sym (ap (flat_map (among c.args.self.now.encoder live_waits)) (c.args.self.now.encoder.paired ∙ set_by_firsts (commands c.args.self.now.encoder) c.args.self.now.encoder.interlocking.now.design.station c.args.self.now.encoder.interlocking.now.routes c.args.self.now.encoder.of_design) ∙ parts_parts (among c.args.self.now.encoder live_waits) (each_pair c.args.self.now.encoder.interlocking.now.routes (commands c.args.self.now.encoder)) (commands c.args.self.now.encoder)))

pub rivals-requires : goal.rivals-requires
rivals-requires c = record { command = c.commands-command-items.ensures.known c.loop-command.command-index _ c.loop-command-test.true }

pub emit_waits_for-requires-clause-first : goal.emit_waits_for-requires-clause-first
emit_waits_for-requires-clause-first c = c.commands-command-items.ensures.known c.loop-command.command-index _ c.loop-command-test.true

pub emit_waits_for-requires-clause-rivals : goal.emit_waits_for-requires-clause-rivals
emit_waits_for-requires-clause-rivals c = known_rivals c.args.self.now.encoder _ _ (c.deref.ensures.value ∙ c.in_ok-rivals.ensures)

pub returns-in_err-emit_waits_for-clause-err : goal.returns-in_err-emit_waits_for-clause-err
returns-in_err-emit_waits_for-clause-err c =
    handed_on _ c.from_residual-in_err-emit_waits_for.result c.in_err-emit_waits_for.field-0.0 c.from_residual-in_err-emit_waits_for.ensures.1
    (next_fails c.args.self.now.encoder _ _ _ (next_rivals (among c.args.self.now.encoder live_waits) c.args.self.now.encoder.interlocking.now.routes (commands c.args.self.now.encoder) c.commands-command-items.result.now c.loop-command.command-index _ c.loop-command-test.true c.deref.result.now (c.deref.ensures.value ∙ c.in_ok-rivals.ensures)) c.loop-command.sink _ _ c.in_err-emit_waits_for.ensures.err c.loop-command.invariant)

pub loop-command-preserved : goal.loop-command-preserved
loop-command-preserved c =
    emitted_next c.args.self.now.encoder _ _ _ (next_rivals (among c.args.self.now.encoder live_waits) c.args.self.now.encoder.interlocking.now.routes (commands c.args.self.now.encoder) c.commands-command-items.result.now c.loop-command.command-index _ c.loop-command-test.true c.deref.result.now (c.deref.ensures.value ∙ c.in_ok-rivals.ensures)) c.loop-command.sink c.emit_waits_for.new.sink _ c.in_ok-emit_waits_for.ensures.ok c.loop-command.invariant

pub returns-then-self-eq1-clause-ok : goal.returns-then-self-eq1-clause-ok
returns-then-self-eq1-clause-ok c =
    ap (λ cs. emitted c.args.sink.now (numbered_clauses c.args.self.now.encoder cs))
    (ap (λ n. flat_map (live_waits (is_among (commands c.args.self.now.encoder)) c.args.self.now.encoder.interlocking.now.design.station c.args.self.now.encoder.interlocking.now.routes n) (pairs_of c.args.self.now.encoder)) c.if-self-eq1.true ∙ no_waits (is_among (commands c.args.self.now.encoder)) c.args.self.now.encoder.interlocking.now.design.station c.args.self.now.encoder.interlocking.now.routes (pairs_of c.args.self.now.encoder))
