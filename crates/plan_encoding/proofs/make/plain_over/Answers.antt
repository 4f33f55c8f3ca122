use Rattle.std.proofs.Common.{◌≡◌, true, [], List, length, refl, sym, ap, subst, ◌∙◌, arith}
use Rattle.rail_base.specs.declared.plan.Command.{Command}
use Rattle.rail_base.proofs.Admitting.{admitted}
use Rattle.live_clause_spec.specs.Variables.{live_pairs}
use Rattle.command_set.specs.Commands.{AreCommandsOf, is_among}
use Rattle.plan_encoding.specs.Bases.{AreRefused, plain_base}
use Rattle.plan_encoding.specs.Numberings.{IsNumberingOf}
use Rattle.plan_encoding.specs.Sinks.{Emitted, FaultSays, emitted}
use Rattle.plan_encoding.proofs.Based.{counted, kept, not_refused, refused}
use Rattle.plan_encoding.proofs.Emission.{handed_on}
use Rattle.plan_encoding.proofs.Over.{few_among, few_live_pairs}
use Rattle.plan_encoding.proofs.make.plain_over.Goals as goal

pub invariant_of-encoder : goal.invariant_of-encoder
invariant_of-encoder c =
    let d = c.args.interlocking.now.design.station in
    let routes = c.args.interlocking.now.routes in
    record {
      of_design = subst (λ (xs : List Command). AreCommandsOf d routes xs) (sym c.in_ok-pairs.ensures.commands) c.requires;
      paired = c.in_ok-pairs.ensures.pairs ∙ ap (λ (xs : List Command). live_pairs (is_among xs) d routes) (sym c.in_ok-pairs.ensures.commands);
    }

pub number_variables-requires : goal.number_variables-requires
number_variables-requires c =
    let i = c.args.interlocking.now in
    let cs = c.in_ok-pairs.pairs.commands in
    let few = few_among cs i.design.station i.routes (subst (λ (xs : List Command). AreCommandsOf i.design.station i.routes xs) (sym c.in_ok-pairs.ensures.commands) c.requires) (admitted i.design.station i.design.admitted).many_trains.1 i.at_most_2000 in
    let fits = not_refused (plain_base (is_among cs) i.design.station i.routes c.args.steps.count) (record { keep = true; literals = 0; clauses = [] }) refl c.in_ok-sink.sink c.in_ok-sink.ensures.ok in
    let pairs = few_live_pairs (is_among cs) i.design.station i.routes c.args.steps.count fits in
    let same = ap length (c.in_ok-pairs.ensures.pairs ∙ ap (λ (xs : List Command). live_pairs (is_among xs) i.design.station i.routes) (sym c.in_ok-pairs.ensures.commands)) in
    record { commands = few; pairs = omega arith }

pub returns-in_err-sink-clause-fault : goal.returns-in_err-sink-clause-fault
returns-in_err-sink-clause-fault c =
    let i = c.args.interlocking.now in
    handed_on (AreRefused (plain_base (is_among c.args.commands) i.design.station i.routes c.args.steps.count)) c.from_residual-in_err-sink.result c.in_err-sink.field-0.0 c.from_residual-in_err-sink.ensures.1
    (refused (plain_base (is_among c.args.commands) i.design.station i.routes c.args.steps.count) _ refl c.in_err-sink.field-0.0
    (subst (λ (xs : List Command). FaultSays (emitted (record { keep = true; literals = 0; clauses = [] }) (plain_base (is_among xs) i.design.station i.routes c.args.steps.count)) c.in_err-sink.field-0.0) c.in_ok-pairs.ensures.commands c.in_err-sink.ensures.err))

pub returns-clause-base : goal.returns-clause-base
returns-clause-base c =
    let d = c.args.interlocking.now.design.station in
    let routes = c.args.interlocking.now.routes in
    let n = c.args.steps.count in
    let all = plain_base (is_among c.args.commands) d routes n in
    let listed = subst (λ (xs : List Command). emitted (record { keep = true; literals = 0; clauses = [] }) (plain_base (is_among xs) d routes n) ≡ Emitted c.in_ok-sink.sink) c.in_ok-pairs.ensures.commands c.in_ok-sink.ensures.ok in
    record {
      commands = c.requires;
      base = record {
        numbering = subst (IsNumberingOf (is_among c.args.commands) d routes n) (sym c.number_variables.ensures) (record {
          steps = refl;
          commands = c.in_ok-pairs.ensures.commands ∙ sym c.requires;
          pairs = c.in_ok-pairs.ensures.pairs;
        });
        clauses = c.into_clauses.ensures ∙ kept all (record { keep = true; literals = 0; clauses = [] }) c.in_ok-sink.sink listed refl;
        literals = c.literals-literals.ensures ∙ counted all (record { keep = true; literals = 0; clauses = [] }) refl c.in_ok-sink.sink listed;
        few = not_refused all (record { keep = true; literals = 0; clauses = [] }) refl c.in_ok-sink.sink listed;
      };
    }
