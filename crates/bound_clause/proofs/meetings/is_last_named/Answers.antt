use Rattle.std.proofs.Common.{◌≡◌, ◌-◌, List, length, Some, ap, subst, ◌∙◌}
use Rattle.std.specs.List.{slice_get}
use Rattle.bound_spec.specs.declared.Place.{Place}
use Rattle.bound_spec.specs.Certificates.{is_named_place}
use Rattle.bound_spec.proofs.Ending.{last_place}
use Rattle.bound_clause.proofs.meetings.is_last_named.Goals as goal

pub returns-in-Some : goal.returns-in-Some
returns-in-Some c = c.is_named_place.ensures ∙ ap is_named_place (last_place c.args.leg.now.places c.in-Some.place.now (subst (λ (ps : List Place). Some c.in-Some.place.now ≡ slice_get ps (length ps - 1)) c.as_slice.ensures c.in-Some.ensures.value))
