use Rattle.std.proofs.Common.{◌*◌, ◌+◌, min, List, drop, get_or, length, ap, sym, ◌∙◌, arith}
use Rattle.bound_spec.specs.declared.Place.{Place}
use Rattle.rail_base.specs.declared.route.RouteNo.{RouteNo}
use Rattle.bound_spec.specs.Certificates.{routes_of_place}
use Rattle.bound_spec.specs.Validity.{choices}
use Rattle.bound_design.proofs.Counting.{capped_between, choices_step}
use Rattle.bound_design.proofs.choices.choices.Goals as goal

pub loop-place-preserved : goal.loop-place-preserved
loop-place-preserved c =
    let places = c.args.places.now in
    let i = c.loop-place.place-index in
    let total = c.loop-place.total in
    let own = length (routes_of_place (get_or places i c.place-item.result)) in
    let later = choices (drop (i + 1) places) in
    let same = ap (λ (rs : List RouteNo). length rs) c.routes_of.ensures ∙ ap (λ (p : Place). length (routes_of_place p)) c.place-item.is in
    let made = c.product-total.ensures ∙ ap (λ n. min 4097 (total * n)) same in
    record {
      few = omega arith;
      all = ap (λ n. min 4097 (n * later)) made ∙ (capped_between total own later ∙ (sym (ap (λ n. min 4097 (total * n)) (choices_step places i c.place-item.result c.loop-place-test.true)) ∙ c.loop-place.invariant.all));
    }
