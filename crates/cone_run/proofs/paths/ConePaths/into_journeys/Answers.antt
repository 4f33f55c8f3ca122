use Rattle.std.proofs.Common.{subst}
use Rattle.interlocking.specs.declared.railway.Interlocking.{Interlocking}
use Rattle.rail_course.specs.Journeys.{AreJourneys}
use Rattle.rail_course.proofs.Numbered.{path_of_number}
use Rattle.cone_spec.specs.Cones.{free_path, of_cone}
use Rattle.cone_run.proofs.Ranging.{no_free_path}
use Rattle.cone_run.proofs.paths.ConePaths.into_journeys.Goals as goal

pub returns : goal.returns
returns c =
    let self = c.args.self in
    let cone = self.layout.cone.now in
    let over = self.layout.interlocking.now in
    let p = of_cone cone in
    let same = path_of_number over.design.station (free_path cone) self.train_paths.given.paths.items self.given (no_free_path over.design.station over.routes cone self.layout.known) in
    subst (λ (i : Interlocking). AreJourneys i.design.station i.routes p c.in_ok-journeys.journeys.items) self.over (c.in_ok-journeys.ensures p same c.in_ok-waits.ensures)
