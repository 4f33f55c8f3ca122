use Rattle.std.proofs.Common.{◌≡◌, drop, find, flat_map}
use Rattle.outcome_words.specs.Waits.{comes_late, releases_before, releases_for}
use Rattle.outcome_words.proofs.waits.late_release.Given as goal

-- of the steps that are left
abbrev pub invariant-loop-step : goal.invariant-loop-step
invariant-loop-step l =
    let routes = l.run.interlocking.now.routes in
    let plan = l.run.plan.now.steps in
    find (comes_late l.run.history.now l.tick) (flat_map (flat_map (releases_before routes plan l.command)) (drop l.step-index l.step-items)) ≡ find (comes_late l.run.history.now l.tick) (releases_for routes plan l.command)
