use Rattle.std.proofs.Common.{List, ap, ◌∙◌}
use Rattle.bound_spec.specs.declared.Leg.{Leg}
use Rattle.bound_spec.specs.Validity.{first_leg, last_leg}
use Rattle.bound_design.specs.Named.{leg_fits}
use Rattle.bound_design.proofs.Begun.{has, first_leg_passes, last_leg_passes}
use Rattle.bound_design.proofs.covering.is_covered.Goals as goal

pub reaches_target-requires-clause-leg : goal.reaches_target-requires-clause-leg
reaches_target-requires-clause-leg c =
    let i = c.args.interlocking.now in
    let b = c.args.bound.now in
    let h = has i.design.station i.routes b c.requires.names in
    ap (leg_fits i) (c.last_leg.ensures ∙ ap (λ (ls : List Leg). last_leg ls) c.as_slice-legs.ensures) ∙ last_leg_passes (leg_fits i) b.legs h.some h.legs

pub origin_covered-requires-clause-leg : goal.origin_covered-requires-clause-leg
origin_covered-requires-clause-leg c =
    let i = c.args.interlocking.now in
    let b = c.args.bound.now in
    let h = has i.design.station i.routes b c.requires.names in
    ap (leg_fits i) (c.first_leg.ensures ∙ ap (λ (ls : List Leg). first_leg ls) c.as_slice-legs.ensures) ∙ first_leg_passes (leg_fits i) b.legs h.some h.legs
