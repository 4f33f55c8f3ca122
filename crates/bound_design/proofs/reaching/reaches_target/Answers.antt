use Rattle.std.proofs.Common.{List, sym, ap, ◌∙◌}
use Rattle.bound_spec.specs.declared.Place.{Place}
use Rattle.bound_spec.specs.declared.Requirement.{Requirement}
use Rattle.bound_spec.specs.Validity.{is_just}
use Rattle.bound_design.specs.Covered.{reaches_in}
use Rattle.bound_design.specs.Named.{place_fits}
use Rattle.bound_design.proofs.Ending.{last_passes}
use Rattle.bound_design.proofs.LegRoutes.{is_leg}
use Rattle.bound_design.proofs.reaching.reaches_target.Goals as goal

pub is_visited-requires : goal.is_visited-requires
is_visited-requires c =
    let i = c.args.interlocking.now in
    let leg = is_leg i.design.station i.routes c.args.leg.now c.requires.leg in
    ap (place_fits i) c.last_place-place.ensures ∙ last_passes (place_fits i) c.args.leg.now.places leg.some leg.places

pub is_visited-requires-in-Order : goal.is_visited-requires-in-Order
is_visited-requires-in-Order c =
    let i = c.args.interlocking.now in
    let leg = is_leg i.design.station i.routes c.args.leg.now c.requires.leg in
    ap (place_fits i) c.last_place-place.ensures ∙ last_passes (place_fits i) c.args.leg.now.places leg.some leg.places

pub is_visited-requires-in-Visit : goal.is_visited-requires-in-Visit
is_visited-requires-in-Visit c =
    let i = c.args.interlocking.now in
    let leg = is_leg i.design.station i.routes c.args.leg.now c.requires.leg in
    ap (place_fits i) c.last_place-place.ensures ∙ last_passes (place_fits i) c.args.leg.now.places leg.some leg.places

pub returns-in-Grant : goal.returns-in-Grant
returns-in-Grant c =
    let i = c.args.interlocking.now in
    c.is_just.ensures i.design.station i.routes
    ∙ (ap (λ (ps : List Place). is_just i.design.station i.routes c.in-Grant.command.route ps) c.as_slice.ensures
    ∙ sym (ap (λ (q : Requirement). reaches_in i q c.args.leg.now) c.in-Grant.is))
