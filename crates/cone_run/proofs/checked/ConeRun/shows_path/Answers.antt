use Rattle.std.proofs.Common.{◌<◌, ◌^◌, All, sym, subst}
use Rattle.rail_base.proofs.Admitting.{admitted}
use Rattle.rail_base.specs.Routes.{IsRoute}
use Rattle.rail_course.specs.Tracks.{path_length}
use Rattle.rail_course.proofs.Granting.{all_from_in}
use Rattle.cone_spec.specs.Cones.{named}
use Rattle.cone_run.proofs.Ranging.{fair, paths_short}
use Rattle.cone_run.proofs.checked.ConeRun.shows_path.Goals as goal

pub path_nodes_of-requires-clause-named : goal.path_nodes_of-requires-clause-named
path_nodes_of-requires-clause-named c =
    let l = c.args.self.now.layout in
    let routes = l.interlocking.now.routes in
    subst (All (IsRoute routes)) (sym c.path-routes.ensures) (all_from_in (IsRoute routes) (named l.cone.now c.args.train).path (fair l.interlocking.now.design.station routes l.cone.now l.known c.args.train).there)

pub path_nodes_of-requires-clause-below_2_47 : goal.path_nodes_of-requires-clause-below_2_47
path_nodes_of-requires-clause-below_2_47 c =
    let l = c.args.self.now.layout in
    let i = l.interlocking.now in
    subst (λ ps. path_length l.interlocking.now.routes ps < 2 ^ 47) (sym c.path-routes.ensures) (paths_short l.interlocking.now.design.station (admitted l.interlocking.now.design.station l.interlocking.now.design.admitted) l.interlocking.now.routes i.table l.cone.now i.at_most_2000 l.known c.args.train)
