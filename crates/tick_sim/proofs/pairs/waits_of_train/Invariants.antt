use Rattle.std.proofs.Common.{map, take}
use Rattle.rail_spec.specs.Plans.{preceding}
use Rattle.rail_course.specs.Itineraries.{waiting_in}
use Rattle.rail_course.specs.Ready.{AreWaitsOf}
use Rattle.tick_sim.proofs.pairs.waits_of_train.Given as goal

abbrev pub invariant-loop-route : goal.invariant-loop-route
invariant-loop-route l =
    let given = l.planned.train_paths.given in
    AreWaitsOf given.interlocking.now.design.station given.interlocking.now.routes (waiting_in given (preceding given.interlocking.now.routes l.planned.plan.now.steps)) l.train (take l.route-index l.route-items) (map (λ v. v.items) l.waits.items)
