use Rattle.std.proofs.Common.{ap, ◌∙◌}
use Rattle.rail_require.specs.Ticks.{visit_tick}
use Rattle.cone_spec.specs.Cones.{of_cone}
use Rattle.cone_run.specs.Runs.{last_tick}
use Rattle.cone_run.specs.Asked.{up_to}
use Rattle.cone_run.proofs.Asking.{visit_asked}
use Rattle.cone_run.proofs.checked.ConeRun.visit_tick.Goals as goal

pub returns : goal.returns
returns c =
    let l = c.args.self.now.layout in
    let d = l.interlocking.now.design.station in
    let routes = l.interlocking.now.routes in
    let p = of_cone l.cone.now in
    let last = last_tick l.cone.now in
    let told = c.args.self.now.is_history in
    c.up_to.ensures ∙ ap (up_to c.args.last) (c.visit_tick.ensures ∙ ap (λ h. visit_tick h c.args.train c.args.visit) told) ∙ visit_asked d routes p last c.args.train c.requires.train c.args.last c.args.visit c.requires.within
