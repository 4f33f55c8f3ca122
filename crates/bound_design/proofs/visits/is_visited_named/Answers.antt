use Rattle.std.proofs.Common.{List, [], ◌∷◌, Bor, false, ◌||◌, ◌&&◌, not, sym, ap, ◌∙◌}
use Rattle.std.specs.List.{list_all}
use Rattle.rail_base.specs.declared.route.Route.{Route}
use Rattle.rail_spec.specs.Plans.{is_route, route_at, route_numbers}
use Rattle.rail_spec.specs.Places.{may_visit}
use Rattle.cone_spec.specs.Validity.{from_boundary}
use Rattle.bound_spec.specs.Validity.{ends_at_signal}
use Rattle.bound_design.proofs.LegRoutes.{all_same}
use Rattle.bound_design.proofs.Earlier.{turned, all_true, never_earlier, earlier}
use Rattle.bound_design.proofs.visits.is_visited_named.Goals as goal

pub returns-then-is_first : goal.returns-then-is_first
returns-then-is_first c =
    let routes = c.args.interlocking.now.routes in
    let v = c.args.visit.now in
    let r = c.args.route in
    let first = sym (c.is_first.ensures ∙ ap (λ (q : Route). from_boundary (q ∷ [])) c.route.ensures) ∙ c.if-is_first.true in
    all_true _ (route_numbers routes) (λ q. never_earlier (is_route q r) (may_visit v.number v.list.now (route_at routes q)) (ends_at_signal (route_at routes q).finish) _ first)

pub returns : goal.returns
returns c =
    let routes = c.args.interlocking.now.routes in
    let v = c.args.visit.now in
    let r = c.args.route in
    let first = sym (c.is_first.ensures ∙ ap (λ (q : Route). from_boundary (q ∷ [])) c.route.ensures) ∙ c.if-is_first.false in
    c.is_made_where_paths_end.ensures
    ∙ (ap (λ (rs : List (Bor Route)). list_all (λ q. not (may_visit v.number v.list.now q.now && ends_at_signal q.now.finish)) rs) c.as_slice.ensures.value
    ∙ (c.in_ok-open.ensures (λ q. may_visit v.number v.list.now q && ends_at_signal q.finish)
    ∙ all_same _ _ (route_numbers routes) (λ q m.
    ap (λ a. not (may_visit v.number v.list.now (route_at routes q) && ends_at_signal (route_at routes q).finish) || (a || false) || false) (turned r.0 q.0)
    ∙ earlier (is_route q r) (may_visit v.number v.list.now (route_at routes q)) (ends_at_signal (route_at routes q).finish) _ first)))
