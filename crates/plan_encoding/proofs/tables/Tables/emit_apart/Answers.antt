use Rattle.std.proofs.Common.{flat_map, ap, ◌∙◌}
use Rattle.plan_encoding.specs.Waiting.{apart_once}
use Rattle.plan_encoding.specs.Sinks.{emitted}
use Rattle.plan_encoding.specs.Encoders.{commands, over, numbered_clauses}
use Rattle.plan_encoding.proofs.Emission.{emitted_next, next_fails, handed_on}
use Rattle.plan_encoding.proofs.Sequences.{apart_are}
use Rattle.plan_encoding.proofs.Tabled.{each_pair, known_rivals, next_rivals}
use Rattle.plan_encoding.proofs.tables.Tables.emit_apart.Goals as goal

pub loop-command-init : goal.loop-command-init
loop-command-init c =
    ap (λ cs. emitted c.args.sink.now (numbered_clauses c.args.self.now.encoder cs))
    (ap (λ xs. flat_map (λ e. flat_map (over c.args.self.now.encoder apart_once) (each_pair c.args.self.now.encoder.interlocking.now.routes (commands c.args.self.now.encoder) e)) xs) (c.commands-command-items.ensures.value) ∙ apart_are (commands c.args.self.now.encoder) c.args.self.now.encoder.interlocking.now.design.station c.args.self.now.encoder.interlocking.now.routes c.args.self.now.encoder.steps.count c.args.self.now.encoder.of_design)

pub rivals-requires : goal.rivals-requires
rivals-requires c = record { command = c.commands-command-items.ensures.known c.loop-command.command-index _ c.loop-command-test.true }

pub emit_apart_from-requires-clause-first : goal.emit_apart_from-requires-clause-first
emit_apart_from-requires-clause-first c = c.commands-command-items.ensures.known c.loop-command.command-index _ c.loop-command-test.true

pub emit_apart_from-requires-clause-rivals : goal.emit_apart_from-requires-clause-rivals
emit_apart_from-requires-clause-rivals c = known_rivals c.args.self.now.encoder _ _ (c.deref.ensures.value ∙ c.in_ok-rivals.ensures)

pub returns-in_err-emit_apart_from-clause-err : goal.returns-in_err-emit_apart_from-clause-err
returns-in_err-emit_apart_from-clause-err c =
    handed_on _ c.from_residual-in_err-emit_apart_from.result c.in_err-emit_apart_from.field-0.0 c.from_residual-in_err-emit_apart_from.ensures.1
    (next_fails c.args.self.now.encoder _ _ _ (next_rivals (over c.args.self.now.encoder apart_once) c.args.self.now.encoder.interlocking.now.routes (commands c.args.self.now.encoder) c.commands-command-items.result.now c.loop-command.command-index _ c.loop-command-test.true c.deref.result.now (c.deref.ensures.value ∙ c.in_ok-rivals.ensures)) c.loop-command.sink _ _ c.in_err-emit_apart_from.ensures.err c.loop-command.invariant)

pub loop-command-preserved : goal.loop-command-preserved
loop-command-preserved c =
    emitted_next c.args.self.now.encoder _ _ _ (next_rivals (over c.args.self.now.encoder apart_once) c.args.self.now.encoder.interlocking.now.routes (commands c.args.self.now.encoder) c.commands-command-items.result.now c.loop-command.command-index _ c.loop-command-test.true c.deref.result.now (c.deref.ensures.value ∙ c.in_ok-rivals.ensures)) c.loop-command.sink c.emit_apart_from.new.sink _ c.in_ok-emit_apart_from.ensures.ok c.loop-command.invariant
