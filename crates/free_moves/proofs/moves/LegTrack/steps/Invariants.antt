use Rattle.std.proofs.Common.{◌≡◌, ◌+◌, ◌-◌, ◌≤◌}
use Rattle.free_spec.specs.Free.{steps}
use Rattle.free_moves.specs.Moves.{free_on}
use Rattle.free_moves.proofs.moves.LegTrack.steps.Given as goal

-- what is left to count
abbrev pub invariant-loop-ticks : goal.invariant-loop-ticks
invariant-loop-ticks l = record {
  few : l.ticks ≤ l.most;
  left : steps (free_on l.self) l.most l.from l.to ≡ l.ticks + steps (free_on l.self) (l.most - l.ticks) l.place l.to;
}

abbrev pub decreases-loop-ticks : goal.decreases-loop-ticks
decreases-loop-ticks l = l.most - l.ticks
