use Rattle.live_clause_spec.specs.Listed.{live_waits}
use Rattle.command_set.specs.Commands.{is_among}
use Rattle.plan_encoding.proofs.Emission.{emitted_next, next_fails, next_mapped, handed_on}
use Rattle.std.proofs.Common.{sym, ap, subst, ◌∙◌}
use Rattle.rail_spec.specs.Plans.{exits}
use Rattle.plan_encoding.specs.Sinks.{emitted}
use Rattle.plan_encoding.specs.Encoders.{commands, numbered_clauses}
use Rattle.std.specs.Prelude.{find, reverse}
use Rattle.rail_base.specs.Routes.{route_at}
use Rattle.plan_encoding.specs.Releases.{AreReleases, left_of}
use Rattle.number_sets.specs.Sets.{contains}
use Rattle.plan_encoding.proofs.Released.{last_clears}
use Rattle.plan_encoding.proofs.Chained.{no_waits_for, no_waits_of_none}
use Rattle.plan_encoding.proofs.tables.Tables.emit_waits_for.Goals as goal

pub invariant_of-releasing : goal.invariant_of-releasing
invariant_of-releasing c = record {
  first_known = c.requires.first;
  released = λ set q l is.
      ap (λ ps. left_of (find (λ p. contains set p.0.0) (reverse ps)) l) c.deref.ensures.value
      ∙ last_clears (route_at c.args.self.now.encoder.interlocking.now.routes c.args.first.route) q c.in_ok-parts.parts.items set (subst (λ r. AreReleases c.in_ok-parts.parts.items r) c.route_at-route.ensures c.in_ok-parts.ensures) l is;
}

pub returns-then-is_empty-clause-ok : goal.returns-then-is_empty-clause-ok
returns-then-is_empty-clause-ok c =
    ap (λ cs. emitted c.args.sink.now (numbered_clauses c.args.self.now.encoder cs))
    (no_waits_of_none (is_among (commands c.args.self.now.encoder)) c.args.self.now.encoder.interlocking.now.design.station c.args.self.now.encoder.interlocking.now.routes c.args.self.now.encoder.steps.count c.args.first c.args.rivals.now (sym c.is_empty.ensures ∙ c.if-is_empty.true))

pub returns-then-exits-clause-ok : goal.returns-then-exits-clause-ok
returns-then-exits-clause-ok c =
    ap (λ cs. emitted c.args.sink.now (numbered_clauses c.args.self.now.encoder cs))
    (no_waits_for (is_among (commands c.args.self.now.encoder)) c.args.self.now.encoder.interlocking.now.design.station c.args.self.now.encoder.interlocking.now.routes c.args.self.now.encoder.steps.count c.args.first c.args.rivals.now (sym (ap exits c.route_at-route.ensures) ∙ (sym c.exits.ensures ∙ c.if-exits.true)))

pub returns-in_err-emit_waits_of-clause-err : goal.returns-in_err-emit_waits_of-clause-err
returns-in_err-emit_waits_of-clause-err c =
    handed_on _ c.from_residual-in_err-emit_waits_of.result c.in_err-emit_waits_of.field-0.0 c.from_residual-in_err-emit_waits_of.ensures.1 (next_fails c.args.self.now.encoder _ _ _ (next_mapped (live_waits (is_among (commands c.args.self.now.encoder)) c.args.self.now.encoder.interlocking.now.design.station c.args.self.now.encoder.interlocking.now.routes c.args.self.now.encoder.steps.count) (λ s. (c.args.first, s)) c.args.rivals.now c.loop-second.second-index _ c.loop-second-test.true) c.loop-second.sink _ _ c.in_err-emit_waits_of.ensures.err c.loop-second.invariant)

pub loop-second-preserved : goal.loop-second-preserved
loop-second-preserved c =
    emitted_next c.args.self.now.encoder _ _ _ (next_mapped (live_waits (is_among (commands c.args.self.now.encoder)) c.args.self.now.encoder.interlocking.now.design.station c.args.self.now.encoder.interlocking.now.routes c.args.self.now.encoder.steps.count) (λ s. (c.args.first, s)) c.args.rivals.now c.loop-second.second-index _ c.loop-second-test.true) c.loop-second.sink c.emit_waits_of.new.sink _ c.in_ok-emit_waits_of.ensures.ok c.loop-second.invariant
