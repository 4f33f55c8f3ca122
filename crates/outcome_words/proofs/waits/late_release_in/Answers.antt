use Rattle.std.proofs.Common.{◌∙◌, sym}
use Rattle.outcome_words.specs.Waits.{comes_late, releases_before}
use Rattle.outcome_words.proofs.Searching.{found_here, found_later}
use Rattle.outcome_words.proofs.waits.late_release_in.Goals as goal

pub returns-in-Some : goal.returns-in-Some
returns-in-Some c =
    let run = c.args.run.now in
    found_here (comes_late run.history.now c.args.tick) (releases_before run.interlocking.now.routes run.plan.now.steps c.args.command) c.args.step.now c.loop-first.first-index _ c.loop-first-test.true
    _ _ (sym c.late_release_before.ensures ∙ c.in-Some.is) c.loop-first.invariant

pub loop-first-preserved : goal.loop-first-preserved
loop-first-preserved c =
    let run = c.args.run.now in
    found_later (comes_late run.history.now c.args.tick) (releases_before run.interlocking.now.routes run.plan.now.steps c.args.command) c.args.step.now c.loop-first.first-index _ c.loop-first-test.true
    _ (sym c.late_release_before.ensures ∙ c.in_default.is) c.loop-first.invariant
