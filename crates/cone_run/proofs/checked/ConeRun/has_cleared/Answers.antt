use Rattle.std.proofs.Common.{ap, ap₂, ◌∙◌}
use Rattle.rail_base.specs.Routes.{route_at}
use Rattle.cone_spec.specs.Cones.{of_cone}
use Rattle.cone_run.specs.Asked.{released_by}
use Rattle.cone_run.specs.Runs.{last_tick}
use Rattle.cone_run.proofs.Asking.{cleared_asked}
use Rattle.cone_run.proofs.Looking.{listed_there}
use Rattle.cone_run.proofs.checked.ConeRun.has_cleared.Goals as goal

pub route_at-requires : goal.route_at-requires
route_at-requires c =
    let l = c.args.self.now.layout in
    (listed_there l.interlocking.now.design.station l.interlocking.now.routes l.cone.now l.known c.args.first c.args.second c.requires.listed_pair).0.1

pub returns : goal.returns
returns c =
    let l = c.args.self.now.layout in
    let d = l.interlocking.now.design.station in
    let routes = l.interlocking.now.routes in
    let p = of_cone l.cone.now in
    let last = last_tick l.cone.now in
    let first = c.args.first in
    let there = (listed_there d routes l.cone.now l.known first c.args.second c.requires.listed_pair).0.0 in
    c.all_released.ensures
    ∙ ap₂ (released_by c.args.self.now.history.now first c.args.tick) c.route_at.ensures c.route_at-2.ensures
    ∙ ap (λ h. released_by h first c.args.tick (route_at routes first.route) (route_at routes c.args.second.route)) c.args.self.now.is_history
    ∙ cleared_asked d routes p last first there c.args.tick c.args.second c.requires.tick
