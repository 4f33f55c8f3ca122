use Rattle.std.proofs.Common.{◌≡◌, drop, map, flat_map, find}
use Rattle.rail_base.specs.declared.plan.Violation.TheVariants as violation
use Rattle.rail_spec.specs.Requirements.{is_certain, path_violation, visit_numbers}
use Rattle.rail_course.specs.declared.journey.Journey.{Journey}
use Rattle.rail_course.proofs.journeys.PlannedJourneys.path_violation.Given as goal

abbrev pub invariant-loop-journey : goal.invariant-loop-journey
invariant-loop-journey l =
    find (is_certain l.self.interlocking.now.design.station l.self.interlocking.now.routes l.self.plan.now.steps 1) (flat_map (λ t. map (violation.Path t) (visit_numbers l.self.interlocking.now.design.station t)) (map (λ (j : Journey). j.train_path.train) (drop l.journey-index l.journey-items)))
    ≡ path_violation l.self.interlocking.now.design.station l.self.interlocking.now.routes l.self.plan.now.steps
