use Rattle.std.proofs.Common.{◌≡◌, ◌++◌, drop}
use Rattle.way_times.specs.Times.{plan_alone}
use Rattle.way_times.proofs.alone.plan_alone.Given as goal

abbrev pub invariant-loop-route : goal.invariant-loop-route
invariant-loop-route l = l.steps ++ plan_alone l.train (drop l.route-index l.way) ≡ plan_alone l.train l.way
