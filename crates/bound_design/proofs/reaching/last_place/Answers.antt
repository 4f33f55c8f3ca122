use Rattle.std.proofs.Common.{List, ◌-◌, length, get_or, ap, ◌∙◌}
use Rattle.bound_spec.specs.declared.Place.{Place}
use Rattle.bound_design.proofs.Ending.{last_at}
use Rattle.bound_design.proofs.reaching.last_place.Goals as goal

pub returns : goal.returns
returns c =
    let here = c.index-places-places.result in
    c.index-places-places.is ∙ (ap (λ (ps : List Place). get_or ps (length ps - 1) here) c.as_slice-places.ensures ∙ last_at c.args.leg.now.places here c.requires)
