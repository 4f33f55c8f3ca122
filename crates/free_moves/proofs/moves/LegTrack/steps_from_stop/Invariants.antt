use Rattle.std.proofs.Common.{◌≡◌, ◌+◌, ◌-◌, ◌≤◌, nat_abs}
use Rattle.free_spec.specs.Free.{steps_from_stop}
use Rattle.free_moves.specs.Moves.{free_on}
use Rattle.free_moves.proofs.Stepping.{from_stop}
use Rattle.free_moves.proofs.moves.LegTrack.steps_from_stop.Given as goal

-- what is left to count, from a place no farther than it can be by then
abbrev pub invariant-loop-ticks : goal.invariant-loop-ticks
invariant-loop-ticks l = record {
  few : l.ticks ≤ l.most;
  rate : l.gain ≡ nat_abs l.self.motor.accel + nat_abs l.self.motor.brake;
  small : l.gain ≤ 200000;
  begun : l.from ≤ l.place;
  in_reach : l.place ≤ from_stop l.gain l.from l.ticks;
  left : steps_from_stop (free_on l.self) l.gain l.from 0 l.most l.from l.to ≡ l.ticks + steps_from_stop (free_on l.self) l.gain l.from l.ticks (l.most - l.ticks) l.place l.to;
}

abbrev pub decreases-loop-ticks : goal.decreases-loop-ticks
decreases-loop-ticks l = l.most - l.ticks
