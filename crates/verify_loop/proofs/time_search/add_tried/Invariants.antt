use Rattle.std.proofs.Common.{◌≡◌, ◌++◌}
use Rattle.verify_loop.specs.Tightening.{as_tried, asked_for, steps_of}
use Rattle.verify_loop.proofs.time_search.add_tried.Given as goal

-- the plans so far are there
abbrev pub invariant-loop-plan : goal.invariant-loop-plan
invariant-loop-plan l = as_tried l.tried.items ≡ as_tried l.initial.tried.items ++ asked_for l.ticks (steps_of l.yielded)
