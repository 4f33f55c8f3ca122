use Rattle.std.proofs.Common.{take}
use Rattle.sat_trail.specs.Trails.{lits}
use Rattle.sat_core.specs.Answers.{Within}
use Rattle.sat_core.proofs.round.all_assigned.Given as goal

abbrev pub invariant-loop-l : goal.invariant-loop-l
invariant-loop-l v = Within (take v.l-index v.assumptions) (lits v.trail.steps)
