use Rattle.std.proofs.Common.{ap, ◌∙◌}
use Rattle.bound_design.specs.Named.{place_fits}
use Rattle.bound_design.proofs.Ending.{last_passes}
use Rattle.bound_design.proofs.LegRoutes.{is_leg}
use Rattle.bound_design.proofs.reaching.is_used_last.Goals as goal

pub is_used-requires : goal.is_used-requires
is_used-requires c =
    let i = c.args.interlocking.now in
    let leg = is_leg i.design.station i.routes c.args.leg.now c.requires in
    ap (place_fits i) c.last_place-place.ensures ∙ last_passes (place_fits i) c.args.leg.now.places leg.some leg.places
