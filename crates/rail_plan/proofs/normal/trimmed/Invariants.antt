use Rattle.std.proofs.Common.{◌≡◌, ℕ, ◌++◌, [], length, replicate}
use Rattle.rail_plan.proofs.normal.trimmed.Given as goal

-- only empty steps have left
abbrev pub invariant-loop-steps : goal.invariant-loop-steps
invariant-loop-steps l = (k : ℕ) × (l.fn.steps ≡ l.steps.items ++ replicate k [])

abbrev pub decreases-loop-steps : goal.decreases-loop-steps
decreases-loop-steps l = length l.steps.items
