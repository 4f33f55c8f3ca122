use Rattle.std.proofs.Common.{◌≡◌, ℕ, List, map, flat_map, sym, ap, subst, ◌∙◌}
use Rattle.sat_clause.specs.declared.lit.Lit.{Lit}
use Rattle.rail_base.specs.declared.station.TrainNo.{TrainNo}
use Rattle.rail_base.specs.declared.plan.Command.{Command}
use Rattle.rail_alike.specs.Turns.{AreNamed}
use Rattle.alike_clause_spec.specs.Turns.{turn_pairs}
use Rattle.alike_clause_spec.proofs.Holding.{turns_named}
use Rattle.live_clause_spec.specs.Listed.{live_in_turn}
use Rattle.live_clause_spec.specs.Variables.{live_numbered, live_pairs}
use Rattle.command_set.specs.Commands.{AreCommandsOf, is_among}
use Rattle.plan_encoding.specs.Bases.{AreRefused, plain_base, turns_base}
use Rattle.plan_encoding.specs.Sinks.{FaultSays, Emitted, emitted}
use Rattle.plan_encoding.proofs.Emission.{handed_on}
use Rattle.plan_encoding.proofs.Behind.{base_few, behind_made, behind_refused, turns_parts, with_turns_made}
use Rattle.plan_encoding.proofs.make.with_turns.Goals as goal

pub behind-sink-requires : goal.behind-sink-requires
behind-sink-requires c =
    let d = c.args.interlocking.now.design.station in
    let routes = c.args.interlocking.now.routes in
    let b = c.args.base in
    base_few (is_among b.numbering.commands) (plain_base (is_among b.numbering.commands) d routes b.numbering.steps) d routes b.numbering.steps b c.requires.base.base

pub invariant_of-encoder : goal.invariant_of-encoder
invariant_of-encoder c =
    let d = c.args.interlocking.now.design.station in
    let routes = c.args.interlocking.now.routes in
    record {
      of_design = subst (λ (xs : List Command). AreCommandsOf d routes xs) (sym c.pairs.ensures.commands) c.requires.base.commands;
      paired = c.pairs.ensures.pairs ∙ (c.requires.base.base.numbering.pairs ∙ ap (λ (xs : List Command). live_pairs (is_among xs) d routes) (sym c.pairs.ensures.commands));
    }

pub emit_turns-requires : goal.emit_turns-requires
emit_turns-requires c =
    let d = c.args.interlocking.now.design.station in
    subst (λ (ps : List (TrainNo × TrainNo)). AreNamed d ps) (sym (c.as_slice.ensures ∙ c.in_ok-turn_pairs.ensures)) (turns_named c.args.turns d)

pub returns-in_err-emit_turns-clause-fault : goal.returns-in_err-emit_turns-clause-fault
returns-in_err-emit_turns-clause-fault c =
    let d = c.args.interlocking.now.design.station in
    let routes = c.args.interlocking.now.routes in
    let b = c.args.base in
    let n = b.numbering.steps in
    let live = is_among b.numbering.commands in
    let e = c.in_err-emit_turns.field-0.0 in
    let sink = c.behind-sink.result in
    let turns : List Command → ℕ → List (TrainNo × TrainNo) → List (List Lit) = λ xs m ps. map (map (live_numbered (is_among xs) d routes m)) (flat_map (live_in_turn (is_among xs) d routes m) ps) in
    handed_on (AreRefused (turns_base c.args.turns live d routes n)) c.from_residual-in_err-emit_turns.result e c.from_residual-in_err-emit_turns.ensures.1
    (subst (λ xs. AreRefused xs e) (sym (turns_parts c.args.turns live d routes n))
    (behind_refused live (plain_base live d routes n) d routes n b c.requires.base.base (turns b.numbering.commands n (turn_pairs c.args.turns d)) sink c.behind-sink.ensures e
    (subst (λ (m : ℕ). FaultSays (emitted sink (turns b.numbering.commands m (turn_pairs c.args.turns d))) e) c.steps.ensures
    (subst (λ (xs : List Command). FaultSays (emitted sink (turns xs c.steps.result.count (turn_pairs c.args.turns d))) e) c.pairs.ensures.commands
    (subst (λ (ps : List (TrainNo × TrainNo)). FaultSays (emitted sink (turns c.pairs.result.now.commands c.steps.result.count ps)) e) (c.as_slice.ensures ∙ c.in_ok-turn_pairs.ensures)
    c.in_err-emit_turns.ensures.err)))))

pub returns-clause-base : goal.returns-clause-base
returns-clause-base c =
    let d = c.args.interlocking.now.design.station in
    let routes = c.args.interlocking.now.routes in
    let b = c.args.base in
    let n = b.numbering.steps in
    let live = is_among b.numbering.commands in
    let sink = c.behind-sink.result in
    let new = c.emit_turns.new.sink in
    let turns : List Command → ℕ → List (TrainNo × TrainNo) → List (List Lit) = λ xs m ps. map (map (live_numbered (is_among xs) d routes m)) (flat_map (live_in_turn (is_among xs) d routes m) ps) in
    record {
      commands = c.requires.base.commands;
      base = with_turns_made c.args.turns live d routes n _
          (behind_made live (plain_base live d routes n) d routes n b c.requires.base.base (turns b.numbering.commands n (turn_pairs c.args.turns d)) sink c.behind-sink.ensures new
          (subst (λ (m : ℕ). emitted sink (turns b.numbering.commands m (turn_pairs c.args.turns d)) ≡ Emitted new) c.steps.ensures
          (subst (λ (xs : List Command). emitted sink (turns xs c.steps.result.count (turn_pairs c.args.turns d)) ≡ Emitted new) c.pairs.ensures.commands
          (subst (λ (ps : List (TrainNo × TrainNo)). emitted sink (turns c.pairs.result.now.commands c.steps.result.count ps) ≡ Emitted new) (c.as_slice.ensures ∙ c.in_ok-turn_pairs.ensures)
          c.in_ok-emit_turns.ensures.ok)))
          _ c.requires.base.base.numbering c.into_clauses.ensures c.literals-literals.ensures);
    }
