use Rattle.std.proofs.Common.{List, Bor, not, ap, ◌∙◌}
use Rattle.std.specs.List.{list_all, list_any}
use Rattle.rail_base.specs.declared.route.Route.{Route}
use Rattle.rail_spec.specs.Requirements.{visit_numbers}
use Rattle.rail_spec.specs.Places.{may_visit}
use Rattle.bound_spec.specs.Certificates.{nodes_of_visit}
use Rattle.bound_design.proofs.Openings.{any_same}
use Rattle.bound_design.proofs.visits.is_used_among.Goals as goal

pub returns : goal.returns
returns c =
    let d = c.args.interlocking.now.design.station in
    let t = c.args.train in
    c.in_ok-used.ensures
    ∙ (ap (λ (rs : List (Bor Route)). list_any (λ k. list_all (λ r. not (may_visit k (nodes_of_visit d t k) r.now)) rs) (visit_numbers d t)) c.as_slice.ensures.value
    ∙ any_same _ _ (visit_numbers d t) (λ k. c.in_ok-open.ensures (λ r. may_visit k (nodes_of_visit d t k) r)))
