use Rattle.std.proofs.Common.{◌≡◌, ◌++◌, drop, map}
use Rattle.rail_spec.specs.Histories.{history_at, train_history}
use Rattle.rail_course.specs.declared.journey.Journey.{Journey}
use Rattle.tick_sim.proofs.histories.first_histories.Given as goal

abbrev pub invariant-loop-journey : goal.invariant-loop-journey
invariant-loop-journey l =
    l.histories.items ++ map (λ (j : Journey). train_history l.run.interlocking.now.design.station l.run.interlocking.now.routes l.run.plan.now.steps 0 j.train_path.train) (drop l.journey-index l.journey-items)
    ≡ history_at l.run.interlocking.now.design.station l.run.interlocking.now.routes l.run.plan.now.steps 0
