use Rattle.rail_plan.specs.Earlier.{delay, EndsFull, IsAsGood}
use Rattle.rail_plan.proofs.normal.normalise.Given as goal

-- the steps are as good as the plan's
abbrev pub invariant-loop-steps : goal.invariant-loop-steps
invariant-loop-steps l = record {
  good : IsAsGood l.interlocking.design.station l.interlocking.routes l.plan.steps l.steps;
  full : EndsFull l.steps;
}

abbrev pub decreases-loop-steps : goal.decreases-loop-steps
decreases-loop-steps l = delay l.steps
