use Rattle.std.proofs.Common.{List, nat_le, ap, ◌∙◌}
use Rattle.bound_spec.specs.declared.Leg.{Leg}
use Rattle.bound_spec.specs.Validity.{are_few_choices, most_places, places_of}
use Rattle.cone_form.proofs.Walks.{and_then}
use Rattle.bound_design.proofs.stated.is_stated.Goals as goal

pub returns-then-are_few_places : goal.returns-then-are_few_places
returns-then-are_few_places c =
    let i = c.args.interlocking.now in
    let few = c.are_few_places.ensures ∙ ap (λ (ls : List Leg). nat_le (places_of ls) most_places) c.as_slice-legs.ensures in
    and_then (and_then c.names_fit.ensures c.if-not-names_fit.false few) c.if-are_few_places.true
    (c.are_few_choices.ensures i.design.station i.routes ∙ ap (λ (ls : List Leg). are_few_choices i.design.station i.routes ls) c.as_slice-legs.ensures)
