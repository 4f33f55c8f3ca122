use Rattle.std.proofs.Common.{◌-◌, ◌++◌, ◌∷◌, [], List, flat_map, refl, sym, ap, subst, ◌∙◌, arith}
use Rattle.rail_base.specs.declared.route.RouteNo.{RouteNo}
use Rattle.rail_spec.specs.Plans.{exits, length_mm}
use Rattle.clause_spec.specs.Clauses.{chain_length}
use Rattle.live_clause_spec.specs.Listed.{live_chains, live_onward}
use Rattle.command_set.specs.Commands.{is_among}
use Rattle.plan_encoding.specs.Sinks.{emitted}
use Rattle.plan_encoding.specs.Encoders.{HasCommands, among, commands, numbered_clauses}
use Rattle.plan_encoding.specs.Waiting.{waits_over}
use Rattle.plan_encoding.proofs.Chained.{stop_exit, stop_long, next_chain, next_further, one_longer, all_longer, in_table}
use Rattle.plan_encoding.proofs.Emission.{emitted_next, next_fails, handed_on}
use Rattle.plan_encoding.proofs.wait.Wait.+emit_chains.Goals as goal

pub returns-then-exits-clause-ok : goal.returns-then-exits-clause-ok
returns-then-exits-clause-ok t c =
    ap (λ cs. emitted c.args.sink.now (numbered_clauses c.args.self.now.tables.now.encoder (waits_over (is_among (commands c.args.self.now.tables.now.encoder)) c.args.self.now.tables.now.encoder.interlocking.now.design.station c.args.self.now.tables.now.encoder.interlocking.now.routes c.args.self.now.tables.now.encoder.steps.count c.args.self.now.first c.args.self.now.second cs)))
    (stop_exit (is_among (commands c.args.self.now.tables.now.encoder)) c.args.self.now.tables.now.encoder.interlocking.now.routes c.args.self.now.first.train c.args.self.now.bound c.args.chain.now.items c.args.route c.args.more (sym (ap exits c.route_at-last.ensures) ∙ (sym c.exits.ensures ∙ c.if-exits.true)))

pub returns-then-total-self-clause-ok : goal.returns-then-total-self-clause-ok
returns-then-total-self-clause-ok t c =
    let long = c.length_mm.ensures ∙ ap length_mm c.route_at-last.ensures in
    let from = c.from.ensures in
    let past = c.if-total-self.true in
    let covered = c.requires.covered in
    ap (λ cs. emitted c.args.sink.now (numbered_clauses c.args.self.now.tables.now.encoder (waits_over (is_among (commands c.args.self.now.tables.now.encoder)) c.args.self.now.tables.now.encoder.interlocking.now.design.station c.args.self.now.tables.now.encoder.interlocking.now.routes c.args.self.now.tables.now.encoder.steps.count c.args.self.now.first c.args.self.now.second cs)))
    (stop_long (is_among (commands c.args.self.now.tables.now.encoder)) c.args.self.now.tables.now.encoder.interlocking.now.routes c.args.self.now.first.train c.args.self.now.bound c.args.chain.now.items c.args.route c.args.more (omega arith))

pub onward-requires-clause-train : goal.onward-requires-clause-train
onward-requires-clause-train t c = c.requires.route.train

pub onward-requires-clause-chain : goal.onward-requires-clause-chain
onward-requires-clause-chain t c = in_table c.args.self.now.tables.now.encoder c.args.self.now.first.train c.deref.result.now (subst (λ (rs : List RouteNo). HasCommands c.args.self.now.tables.now.encoder c.args.self.now.first.train rs) (sym (c.deref.ensures.value ∙ c.in_ok-push.ensures.items)) (all_longer c.args.self.now.tables.now.encoder c.args.self.now.first.train c.args.chain.now.items c.args.route c.requires.chain c.requires.route))

pub onward-requires-clause-last : goal.onward-requires-clause-last
onward-requires-clause-last t c = c.requires.route.route

pub emit_wait-requires-clause-chain : goal.emit_wait-requires-clause-chain
emit_wait-requires-clause-chain t c = subst (λ (rs : List RouteNo). HasCommands c.args.self.now.tables.now.encoder c.args.self.now.first.train rs) (sym (c.deref-2.ensures.value ∙ c.in_ok-push.ensures.items)) (all_longer c.args.self.now.tables.now.encoder c.args.self.now.first.train c.args.chain.now.items c.args.route c.requires.chain c.requires.route)

pub emit_wait-requires-clause-further : goal.emit_wait-requires-clause-further
emit_wait-requires-clause-further t c = subst (λ (rs : List RouteNo). HasCommands c.args.self.now.tables.now.encoder c.args.self.now.first.train rs) (sym c.deref-3.ensures.value) c.in_ok-further.ensures.known

pub returns-in_err-emit_wait-clause-err : goal.returns-in_err-emit_wait-clause-err
returns-in_err-emit_wait-clause-err t c =
    let long = c.length_mm.ensures ∙ ap length_mm c.route_at-last.ensures in
    let from = c.from.ensures in
    let past = c.if-total-self.false in
    let covered = c.requires.covered in
    let some = c.if-more-eq0.false in
    handed_on _ c.from_residual-in_err-emit_wait.result c.in_err-emit_wait.field-0.0 c.from_residual-in_err-emit_wait.ensures.1
    (next_fails c.args.self.now.tables.now.encoder _ _ _ (next_chain (is_among (commands c.args.self.now.tables.now.encoder)) c.args.self.now.tables.now.encoder.interlocking.now.design.station c.args.self.now.tables.now.encoder.interlocking.now.routes c.args.self.now.tables.now.encoder.steps.count c.args.self.now.first c.args.self.now.second c.args.self.now.bound c.args.more c.args.chain.now.items c.deref-2.result.now c.deref-3.result.now c.args.route (omega arith)
    (sym (ap exits c.route_at-last.ensures) ∙ (sym c.exits.ensures ∙ c.if-exits.false)) (omega arith) (c.deref-2.ensures.value ∙ c.in_ok-push.ensures.items)
    (c.deref-3.ensures.value ∙ (c.in_ok-further.ensures.value ∙ ap (λ ch. live_onward (is_among (commands c.args.self.now.tables.now.encoder)) c.args.self.now.tables.now.encoder.interlocking.now.routes c.args.self.now.first.train ch c.args.route) (c.deref.ensures.value ∙ sym c.deref-2.ensures.value))))
    c.args.sink.now _ _ c.in_err-emit_wait.ensures.err refl)

pub loop-next-init : goal.loop-next-init
loop-next-init t c =
    let long = c.length_mm.ensures ∙ ap length_mm c.route_at-last.ensures in
    let from = c.from.ensures in
    let past = c.if-total-self.false in
    let covered = c.requires.covered in
    let some = c.if-more-eq0.false in
    record {
      longer = c.in_ok-push.ensures.items;
      left =
          ap (λ rs. emitted c.emit_wait.new.sink (numbered_clauses c.args.self.now.tables.now.encoder (among c.args.self.now.tables.now.encoder waits_over c.args.self.now.first c.args.self.now.second (flat_map (live_chains (is_among (commands c.args.self.now.tables.now.encoder)) c.args.self.now.tables.now.encoder.interlocking.now.routes c.args.self.now.first.train (c.args.more - 1) c.args.self.now.bound (c.args.chain.now.items ++ c.args.route ∷ [])) rs)))) (c.deref-next-items.ensures.value ∙ sym c.deref-3.ensures.value)
          ∙ emitted_next c.args.self.now.tables.now.encoder _ _ _ (next_chain (is_among (commands c.args.self.now.tables.now.encoder)) c.args.self.now.tables.now.encoder.interlocking.now.design.station c.args.self.now.tables.now.encoder.interlocking.now.routes c.args.self.now.tables.now.encoder.steps.count c.args.self.now.first c.args.self.now.second c.args.self.now.bound c.args.more c.args.chain.now.items c.deref-2.result.now c.deref-3.result.now c.args.route (omega arith)
          (sym (ap exits c.route_at-last.ensures) ∙ (sym c.exits.ensures ∙ c.if-exits.false)) (omega arith) (c.deref-2.ensures.value ∙ c.in_ok-push.ensures.items)
          (c.deref-3.ensures.value ∙ (c.in_ok-further.ensures.value ∙ ap (λ ch. live_onward (is_among (commands c.args.self.now.tables.now.encoder)) c.args.self.now.tables.now.encoder.interlocking.now.routes c.args.self.now.first.train ch c.args.route) (c.deref.ensures.value ∙ sym c.deref-2.ensures.value))))
          c.args.sink.now c.emit_wait.new.sink _ c.in_ok-emit_wait.ensures.ok refl;
    }

pub emit_chains-requires : goal.emit_chains-requires
emit_chains-requires t c =
    let long = c.length_mm.ensures ∙ ap length_mm c.route_at-last.ensures in
    let from = c.from.ensures in
    let past = c.if-total-self.false in
    let covered = c.requires.covered in
    let some = c.if-more-eq0.false in
    let dec = c.decreases in
    let is = c.loop-next.invariant.longer in
    let one = one_longer c.args.self.now.tables.now.encoder.interlocking.now.routes c.args.chain.now.items c.args.route in
    let two = ap (chain_length c.args.self.now.tables.now.encoder.interlocking.now.routes) is in (
      omega arith,
      (
        subst (λ (rs : List RouteNo). HasCommands c.args.self.now.tables.now.encoder c.args.self.now.first.train rs) (sym is) (all_longer c.args.self.now.tables.now.encoder c.args.self.now.first.train c.args.chain.now.items c.args.route c.requires.chain c.requires.route),
        (
          omega arith,
          (
            omega arith,
            subst (λ (rs : List RouteNo). HasCommands c.args.self.now.tables.now.encoder c.args.self.now.first.train rs) (sym c.deref-next-items.ensures.value) c.in_ok-further.ensures.known c.loop-next.next-index _ c.loop-next-test.true,
          ),
        ),
      ),
    )

pub returns-in_err-emit_chains-clause-err : goal.returns-in_err-emit_chains-clause-err
returns-in_err-emit_chains-clause-err t c = handed_on _ c.from_residual-in_err-emit_chains.result c.in_err-emit_chains.field-0.0 c.from_residual-in_err-emit_chains.ensures.1
    (next_fails c.args.self.now.tables.now.encoder _ _ _ (next_further (is_among (commands c.args.self.now.tables.now.encoder)) c.args.self.now.tables.now.encoder.interlocking.now.design.station c.args.self.now.tables.now.encoder.interlocking.now.routes c.args.self.now.tables.now.encoder.steps.count c.args.self.now.first c.args.self.now.second c.args.self.now.bound (c.args.more - 1) (c.args.chain.now.items ++ c.args.route ∷ []) c.loop-next.chain.items c.deref-next-items.result.now c.loop-next.next-index _ c.loop-next.invariant.longer c.loop-next-test.true)
    c.loop-next.sink _ _ c.in_err-emit_chains.ensures.err c.loop-next.invariant.left)

pub loop-next-preserved : goal.loop-next-preserved
loop-next-preserved t c = record {
  longer = c.in_ok-emit_chains.ensures.same ∙ c.loop-next.invariant.longer;
  left = emitted_next c.args.self.now.tables.now.encoder _ _ _ (next_further (is_among (commands c.args.self.now.tables.now.encoder)) c.args.self.now.tables.now.encoder.interlocking.now.design.station c.args.self.now.tables.now.encoder.interlocking.now.routes c.args.self.now.tables.now.encoder.steps.count c.args.self.now.first c.args.self.now.second c.args.self.now.bound (c.args.more - 1) (c.args.chain.now.items ++ c.args.route ∷ []) c.loop-next.chain.items c.deref-next-items.result.now c.loop-next.next-index _ c.loop-next.invariant.longer c.loop-next-test.true)
      c.loop-next.sink c.emit_chains.new.sink _ c.in_ok-emit_chains.ensures.ok c.loop-next.invariant.left;
}
