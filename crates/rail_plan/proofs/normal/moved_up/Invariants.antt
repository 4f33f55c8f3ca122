use Rattle.std.proofs.Common.{drop}
use Rattle.rail_plan.proofs.Joining.{Round}
use Rattle.rail_plan.proofs.normal.moved_up.Given as goal

-- the round has come so far
abbrev pub invariant-loop-step : goal.invariant-loop-step
invariant-loop-step l = Round l.interlocking.design.station l.interlocking.routes l.steps l.done l.last (drop l.step-index l.others) l.holds l.is_moved
