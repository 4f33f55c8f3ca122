use Rattle.std.proofs.Common.{ap, arith}
use Rattle.rail_base.specs.declared.station.Edge.{Edge}
use Rattle.rail_base.proofs.Admitting.{admitted}
use Rattle.rail_routes.proofs.Walking.{short_edge}
use Rattle.rail_routes.proofs.route.length_of.Goals as goal

pub returns-clause-bound : goal.returns-clause-bound
returns-clause-bound c =
    let d = c.args.design.now.station in
    let short = short_edge d c.args.edge (admitted d c.args.design.now.admitted) c.requires in
    let same = ap (λ (e : Edge). e.length_mm) c.edge.ensures in
    omega arith
