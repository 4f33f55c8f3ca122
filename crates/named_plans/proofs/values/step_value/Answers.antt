use Rattle.std.proofs.Common.{◌≡◌, ◌+◌, ◌++◌, map, filter, length, sym, ap, ◌∙◌, arith}
use Rattle.serde_json.specs.Data.{array}
use Rattle.serde_json.specs.View.{items_of}
use Rattle.serde_json.proofs.Views.{view-Array}
use Rattle.rail_spec.specs.Plans.{is_train}
use Rattle.plan_text.proofs.Trains.{given_first, one_more}
use Rattle.named_plans.specs.Text.{command_value}
use Rattle.named_plans.proofs.values.step_value.Goals as goal

pub loop-index-preserved : goal.loop-index-preserved
loop-index-preserved c =
    let value = command_value c.args.design.now.station in
    let more = map value (filter (λ e. is_train e.train (record { 0 = c.loop-index.index + 1 })) c.args.step.now) in
    c.in_ok-put_commands.ensures ∙ ap (λ ds. ds ++ more) c.loop-index.invariant ∙ sym (one_more value c.args.step.now c.loop-index.index)

pub returns : goal.returns
returns c =
    let all : c.loop-index.index ≡ length c.args.design.now.station.trains = omega arith in
    view-Array c.loop-index.values
    ∙ ap (λ ds. array (items_of ds)) (c.loop-index.invariant ∙ ap (λ n. map (command_value c.args.design.now.station) (given_first c.args.step.now n)) all)
