use Rattle.std.proofs.Common.{◌≡◌, drop, find, flat_map}
use Rattle.outcome_words.specs.Waits.{comes_late, releases_before}
use Rattle.outcome_words.proofs.waits.late_release_in.Given as goal

-- of those that are left
abbrev pub invariant-loop-first : goal.invariant-loop-first
invariant-loop-first l =
    let before = releases_before l.run.interlocking.now.routes l.run.plan.now.steps l.command in
    find (comes_late l.run.history.now l.tick) (flat_map before (drop l.first-index l.step)) ≡ find (comes_late l.run.history.now l.tick) (flat_map before l.step)
