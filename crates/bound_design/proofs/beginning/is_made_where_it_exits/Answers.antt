use Rattle.std.proofs.Common.{List, Bor, not, ◌&&◌, ◌==◌, ap, ◌∙◌}
use Rattle.std.specs.List.{list_all}
use Rattle.rail_base.specs.declared.route.Route.{Route}
use Rattle.rail_base.specs.Numbering.{after_first}
use Rattle.rail_spec.specs.Plans.{exits, length_mm, route_at, route_numbers}
use Rattle.rail_spec.specs.Places.{may_visit}
use Rattle.bound_spec.specs.Certificates.{first_in}
use Rattle.bound_design.proofs.LegRoutes.{all_same}
use Rattle.bound_design.proofs.Earlier.{at_end}
use Rattle.bound_design.proofs.beginning.is_made_where_it_exits.Goals as goal

pub returns : goal.returns
returns c =
    let routes = c.args.interlocking.now.routes in
    let v = c.args.visit.now in
    c.none_is_made_before.ensures
    ∙ (ap (λ (rs : List (Bor Route)). list_all (λ r. not (may_visit v.number v.list.now r.now && not (exits r.now && (first_in v.list.now (after_first r.now.nodes) == length_mm r.now)))) rs) c.as_slice.ensures.value
    ∙ (c.in_ok-open.ensures (λ r. may_visit v.number v.list.now r && not (exits r && (first_in v.list.now (after_first r.nodes) == length_mm r)))
    ∙ all_same _ _ (route_numbers routes) (λ q m. at_end (may_visit v.number v.list.now (route_at routes q)) (exits (route_at routes q) && (first_in v.list.now (after_first (route_at routes q).nodes) == length_mm (route_at routes q))))))
