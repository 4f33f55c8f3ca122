use Rattle.std.proofs.Common.{◌≡◌, ℕ, ◌+◌, ◌*◌, ◌≤◌, List, length, sym, ap, subst, ◌∙◌, arith}
use Rattle.std.proofs.lemmas.Nat.{mul-le}
use Rattle.std.specs.Prelude.{IfErr, OnOk}
use Rattle.rail_base.specs.declared.plan.Command.{Command}
use Rattle.rail_base.specs.declared.route.Route.{Route}
use Rattle.rail_base.specs.declared.station.Station.{Station}
use Rattle.rail_base.proofs.Admitting.{admitted}
use Rattle.rail_spec.specs.Plans.{all_commands}
use Rattle.clause_spec.specs.declared.question.VariableCounts.{VariableCounts}
use Rattle.clause_spec.specs.Variables.{pairs, variable_count}
use Rattle.live_clause_spec.specs.Variables.{live_pairs}
use Rattle.command_set.specs.Commands.{AreCommandsOf, is_among}
use Rattle.command_set.proofs.Tests.{all_are_a_set, all_pairs_are}
use Rattle.plan_encoding.specs.declared.normal.NormalEncoder.{NormalEncoder}
use Rattle.plan_encoding.specs.Encoders.{station, table}
use Rattle.plan_encoding.specs.Normal.{normal_part}
use Rattle.plan_encoding.specs.Sinks.{Emitted, FaultSays, emitted}
use Rattle.plan_encoding.proofs.Over.{every_command, every_pair}
use Rattle.plan_encoding.proofs.make.emit_normal.Goals as goal

pub invariant_of-encoder : goal.invariant_of-encoder
invariant_of-encoder c =
    let d = c.args.interlocking.now.design.station in
    let routes = c.args.interlocking.now.routes in
    let all : c.pairs.result.now.commands ≡ all_commands d routes = c.pairs.ensures.commands ∙ (c.requires.commands ∙ every_command d routes c.args.numbering.now.steps) in
    record {
      of_design = subst (λ (xs : List Command). AreCommandsOf d routes xs) (sym all) (all_are_a_set d routes);
      paired = c.pairs.ensures.pairs ∙ (c.requires.pairs ∙ (every_pair d routes c.args.numbering.now.steps ∙ (sym (all_pairs_are d routes) ∙ ap (λ (xs : List Command). live_pairs (is_among xs) d routes) (sym all))));
    }

pub invariant_of-normal : goal.invariant_of-normal
invariant_of-normal c =
    let i = c.args.interlocking.now in
    let d = i.design.station in
    let n = c.args.numbering.now.steps in
    let steps : c.steps.result.count ≡ n = c.steps.ensures in
    let count : c.variables.result.count ≡ variable_count d i.routes n + 0 = ap (λ (v : VariableCounts). v.count) (c.variables.ensures d i.routes n c.requires) in
    let most = c.steps.result.at_most_256 in
    let commands : length d.trains * length i.routes ≤ 128 * 2000 = mul-le (length d.trains) (length i.routes) 128 2000 (admitted d i.design.admitted).many_trains.1 i.at_most_2000 in
    let given : length d.trains * length i.routes * n ≤ 256000 * 256 = mul-le (length d.trains * length i.routes) n 256000 256 (omega arith) (omega arith) in
    let few = c.pairs.ensures.bound in
    let same : length c.pairs.result.now.pairs ≡ length (pairs d i.routes) = ap length (c.pairs.ensures.pairs ∙ (c.requires.pairs ∙ every_pair d i.routes n)) in
    record {
      every_command = c.pairs.ensures.commands ∙ (c.requires.commands ∙ every_command d i.routes n);
      counted = (let e : c.variables.result.count ≡ variable_count d i.routes n = omega arith in e ∙ ap (variable_count d i.routes) (sym steps));
      at_most_73536256 = omega arith;
    }

pub returns-clause-ok : goal.returns-clause-ok
returns-clause-ok c =
    let i = c.args.interlocking.now in
    let listed : Station → List Route → ℕ → Type 0 = λ d routes n. OnOk c.emit_normal.result (emitted c.args.sink.now (normal_part d routes n) ≡ Emitted c.emit_normal.new.sink) in
    subst (λ (n : ℕ). listed i.design.station i.routes n) c.steps.ensures
    (subst (λ (x : NormalEncoder). listed (station x.encoder) (table x.encoder) x.encoder.steps.count) c.in_ok-tables.ensures c.emit_normal.ensures.ok)

pub returns-clause-err : goal.returns-clause-err
returns-clause-err c =
    let i = c.args.interlocking.now in
    let stops : Station → List Route → ℕ → Type 0 = λ d routes n. IfErr c.emit_normal.result (FaultSays (emitted c.args.sink.now (normal_part d routes n))) in
    subst (λ (n : ℕ). stops i.design.station i.routes n) c.steps.ensures
    (subst (λ (x : NormalEncoder). stops (station x.encoder) (table x.encoder) x.encoder.steps.count) c.in_ok-tables.ensures c.emit_normal.ensures.err)
