use Rattle.std.proofs.Common.{map, take}
use Rattle.rail_course.specs.Itineraries.{waiting_in}
use Rattle.rail_course.specs.Ready.{AreWaitsOf}
use Rattle.cone_spec.specs.Cones.{of_cone}
use Rattle.cone_run.proofs.paths.ConePaths.waits_of_train.Given as goal

abbrev pub invariant-loop-route : goal.invariant-loop-route
invariant-loop-route l =
    let given = l.self.train_paths.given in
    AreWaitsOf given.interlocking.now.design.station given.interlocking.now.routes (waiting_in given (of_cone l.self.layout.cone.now).before) l.train (take l.route-index l.route-items) (map (λ v. v.items) l.waits.items)
