use Rattle.std.proofs.Common.{◌≡◌, List, flat_map, sym, ap, subst, ◌∙◌}
use Rattle.rail_base.specs.declared.route.RouteNo.{RouteNo}
use Rattle.plan_encoding.specs.Sinks.{Emitted, emitted}
use Rattle.plan_encoding.specs.Encoders.{HasCommands, Stops, numbered_clauses}
use Rattle.plan_encoding.proofs.Beginning.{begun_always, turn_is}
use Rattle.plan_encoding.proofs.Emission.{emitted_next, next_fails, next_member, handed_on}
use Rattle.plan_encoding.proofs.encoder.Encoder.emit_turns_of.Goals as goal

pub loop-route-init : goal.loop-route-init
loop-route-init c =
    ap (λ qs. emitted c.args.sink.now (numbered_clauses c.args.self.now (flat_map (begun_always c.args.self.now c.args.pair) qs))) (c.deref-route-items.ensures.value ∙ c.in_ok-then.ensures.value)

pub emit_begun-requires-clause-routes : goal.emit_begun-requires-clause-routes
emit_begun-requires-clause-routes c = subst (λ (rs : List RouteNo). HasCommands c.args.self.now c.args.pair.0 rs) (sym c.deref.ensures.value) c.in_ok-first.ensures.known

pub emit_begun-requires-clause-command : goal.emit_begun-requires-clause-command
emit_begun-requires-clause-command c = subst (λ (rs : List RouteNo). HasCommands c.args.self.now c.args.pair.1 rs) (sym c.deref-route-items.ensures.value) c.in_ok-then.ensures.known c.loop-route.route-index _ c.loop-route-test.true

pub returns-in_err-emit_begun-clause-err : goal.returns-in_err-emit_begun-clause-err
returns-in_err-emit_begun-clause-err c =
    handed_on _ c.from_residual-in_err-emit_begun.result c.in_err-emit_begun.field-0.0 c.from_residual-in_err-emit_begun.ensures.1
    (next_fails c.args.self.now _ _ _ (next_member (begun_always c.args.self.now c.args.pair) c.deref-route-items.result.now c.loop-route.route-index (record { 0 = 0 }) c.loop-route-test.true) c.loop-route.sink _ _
    (subst (λ cs. Stops c.args.self.now cs c.loop-route.sink c.in_err-emit_begun.field-0.0) (turn_is c.args.self.now c.args.pair c.deref.result.now (c.deref.ensures.value ∙ c.in_ok-first.ensures.value) _) c.in_err-emit_begun.ensures.err)
    c.loop-route.invariant)

pub loop-route-preserved : goal.loop-route-preserved
loop-route-preserved c =
    emitted_next c.args.self.now _ _ _ (next_member (begun_always c.args.self.now c.args.pair) c.deref-route-items.result.now c.loop-route.route-index (record { 0 = 0 }) c.loop-route-test.true) c.loop-route.sink c.emit_begun.new.sink _
    (subst (λ cs. emitted c.loop-route.sink (numbered_clauses c.args.self.now cs) ≡ Emitted c.emit_begun.new.sink) (turn_is c.args.self.now c.args.pair c.deref.result.now (c.deref.ensures.value ∙ c.in_ok-first.ensures.value) _) c.in_ok-emit_begun.ensures.ok)
    c.loop-route.invariant
