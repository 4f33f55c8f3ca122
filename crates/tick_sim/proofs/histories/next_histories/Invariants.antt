use Rattle.std.proofs.Common.{◌≡◌, ◌++◌, drop, map}
use Rattle.rail_spec.specs.Histories.{history_at, train_history}
use Rattle.rail_course.specs.declared.journey.Journey.{Journey}
use Rattle.tick_sim.proofs.histories.next_histories.Given as goal

abbrev pub invariant-loop-i : goal.invariant-loop-i
invariant-loop-i l =
    l.histories.items ++ map (λ (j : Journey). train_history l.run.interlocking.now.design.station l.run.interlocking.now.routes l.run.plan.now.steps l.tick j.train_path.train) (drop l.i l.journeys)
    ≡ history_at l.run.interlocking.now.design.station l.run.interlocking.now.routes l.run.plan.now.steps l.tick
