use Rattle.std.proofs.Common.{◌∙◌, sym, ap, find, flat_map}
use Rattle.outcome_words.specs.Waits.{comes_late, releases_before}
use Rattle.outcome_words.proofs.Releases.{for_each, by_steps}
use Rattle.outcome_words.proofs.Searching.{found_here, found_later}
use Rattle.outcome_words.proofs.waits.late_release.Goals as goal

pub loop-step-init : goal.loop-step-init
loop-step-init c =
    let run = c.args.run.now in
    ap (λ steps. find (comes_late run.history.now c.args.tick) (flat_map (flat_map (releases_before run.interlocking.now.routes run.plan.now.steps c.args.command)) steps)) c.as_slice-step-items.ensures ∙ ap (find (comes_late run.history.now c.args.tick)) (sym (for_each run.interlocking.now.routes run.plan.now.steps c.args.command ∙ by_steps run.interlocking.now.routes run.plan.now.steps run.plan.now.steps c.args.command))

pub returns-in-Some : goal.returns-in-Some
returns-in-Some c =
    let run = c.args.run.now in
    let before = releases_before run.interlocking.now.routes run.plan.now.steps c.args.command in
    found_here (comes_late run.history.now c.args.tick) (flat_map before) c.as_slice-step-items.result.now c.loop-step.step-index _ c.loop-step-test.true
    _ _ (ap (λ step. find (comes_late run.history.now c.args.tick) (flat_map before step)) (sym c.step-item.is ∙ sym c.as_slice.ensures) ∙ (sym c.late_release_in.ensures ∙ c.in-Some.is)) c.loop-step.invariant

pub loop-step-preserved : goal.loop-step-preserved
loop-step-preserved c =
    let run = c.args.run.now in
    let before = releases_before run.interlocking.now.routes run.plan.now.steps c.args.command in
    found_later (comes_late run.history.now c.args.tick) (flat_map before) c.as_slice-step-items.result.now c.loop-step.step-index _ c.loop-step-test.true
    _ (ap (λ step. find (comes_late run.history.now c.args.tick) (flat_map before step)) (sym c.step-item.is ∙ sym c.as_slice.ensures) ∙ (sym c.late_release_in.ensures ∙ c.in_default.is)) c.loop-step.invariant
