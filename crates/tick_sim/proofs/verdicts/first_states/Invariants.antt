use Rattle.std.proofs.Common.{◌≡◌, ◌++◌, drop, map}
use Rattle.rail_spec.specs.Dispatches.{idle, of_plan, state_at}
use Rattle.rail_course.specs.declared.journey.Journey.{Journey}
use Rattle.tick_sim.proofs.verdicts.first_states.Given as goal

abbrev pub invariant-loop-journey : goal.invariant-loop-journey
invariant-loop-journey l = l.states.items ++ map (λ (j : Journey). idle) (drop l._journey-index l._journey-items) ≡ state_at l.run.interlocking.now.design.station l.run.interlocking.now.routes (of_plan l.run.interlocking.now.routes l.run.plan.now.steps) 0
