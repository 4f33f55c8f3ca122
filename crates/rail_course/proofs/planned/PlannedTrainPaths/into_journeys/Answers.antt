use Rattle.rail_spec.specs.Plans.{path}
use Rattle.rail_spec.specs.Dispatches.{of_plan}
use Rattle.rail_course.proofs.Granting.{no_path, plan_named}
use Rattle.rail_course.proofs.Numbered.{path_of_number}
use Rattle.rail_course.proofs.planned.PlannedTrainPaths.into_journeys.Goals as goal

pub invariant_of-result : goal.invariant_of-result
invariant_of-result c =
    let p = c.args.self in
    let i = p.train_paths.given.interlocking.now in
    let d = i.design.station in
    let plan = p.plan.now.steps in
    let same = path_of_number d (path plan) p.train_paths.given.paths.items p.paths (no_path d i.routes plan (plan_named i plan p.formed)) in
    record { formed = p.formed; led = c.in_ok-journeys.ensures (of_plan i.routes plan) same c.requires }
