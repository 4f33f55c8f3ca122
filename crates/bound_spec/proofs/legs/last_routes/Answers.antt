use Rattle.std.proofs.Common.{List, ap, ◌∙◌}
use Rattle.bound_spec.specs.declared.Place.{Place}
use Rattle.bound_spec.specs.Certificates.{routes_of_place, last_of_places}
use Rattle.bound_spec.proofs.Ending.{last_place}
use Rattle.bound_spec.proofs.legs.last_routes.Goals as goal

pub returns-in-Some : goal.returns-in-Some
returns-in-Some c = c.routes_of.ensures ∙ (ap routes_of_place (last_place c.as_slice.result.now c.in-Some.place.now c.in-Some.ensures.value) ∙ ap (λ (ps : List Place). routes_of_place (last_of_places ps)) c.as_slice.ensures)
