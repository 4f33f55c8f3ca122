use Rattle.std.proofs.Common.{◌≡◌, Bool, true, List, get_or, map, filter, sym, ap, ◌∙◌}
use Rattle.rail_base.specs.declared.plan.Command.{Command}
use Rattle.clause_spec.specs.Clauses.{not_both}
use Rattle.command_set.specs.Commands.{is_among}
use Rattle.plan_encoding.specs.Sinks.{emitted}
use Rattle.plan_encoding.specs.Encoders.{commands, over, numbered_clauses}
use Rattle.plan_encoding.proofs.Excluding.{both_for, excluded_among}
use Rattle.plan_encoding.proofs.Tabled.{known_pairs}
use Rattle.plan_encoding.proofs.tables.Tables.emit_excluded_of.Goals as goal

pub loop-pair-init : goal.loop-pair-init
loop-pair-init c =
    let f = c.args.self.now.encoder in
    ap (λ cs. emitted c.args.sink.now (numbered_clauses f cs))
    (ap (λ ps. map (over f not_both c.args.train) (filter (both_for (is_among (commands f)) c.args.train) ps)) (c.deref-pair-items.ensures.value ∙ c.args.self.now.excluded)
    ∙ excluded_among (is_among (commands f)) c.args.train f.interlocking.now.design.station f.interlocking.now.routes f.steps.count)

-- a command that is in the set by its answer
known_by : (cs xs : List Command) (x : Command) (b : Bool) → b ≡ is_among cs x → cs ≡ xs → b ≡ true → is_among xs x ≡ true
known_by cs xs x b a e h = sym (a ∙ ap (λ (ys : List Command). is_among ys x) e) ∙ h

pub not_given_lit-requires-clause-command : goal.not_given_lit-requires-clause-command
not_given_lit-requires-clause-command c = record {
  train = c.requires.train;
  route = (known_pairs c.args.self.now c.deref-pair-items.result.now c.deref-pair-items.ensures.value c.loop-pair.pair-index _ c.loop-pair-test.true).0;
  known = known_by c.commands-commands.result.now (commands c.args.self.now.encoder) (record { train = c.args.train; route = (get_or c.deref-pair-items.result.now c.loop-pair.pair-index (record { 0 = 0 }, record { 0 = 0 })).0 })
      c.contains.result c.contains.ensures c.commands-commands.ensures c.if-contains.true;
}

pub not_given_lit-requires-then-contains-2-clause-command : goal.not_given_lit-requires-then-contains-2-clause-command
not_given_lit-requires-then-contains-2-clause-command c = record {
  train = c.requires.train;
  route = (known_pairs c.args.self.now c.deref-pair-items.result.now c.deref-pair-items.ensures.value c.loop-pair.pair-index _ c.loop-pair-test.true).1;
  known = known_by c.commands-commands.result.now (commands c.args.self.now.encoder) (record { train = c.args.train; route = (get_or c.deref-pair-items.result.now c.loop-pair.pair-index (record { 0 = 0 }, record { 0 = 0 })).1 })
      c.contains-then-contains.result c.contains-then-contains.ensures c.commands-commands.ensures c.if-contains-2.true;
}
