use Rattle.std.proofs.Common.{List, [], ◌∷◌, Bor, ◌||◌, not, sym, ap, ◌∙◌}
use Rattle.std.specs.List.{list_all}
use Rattle.rail_base.specs.declared.route.Route.{Route}
use Rattle.rail_spec.specs.Plans.{route_at, route_numbers}
use Rattle.cone_spec.specs.Cones.{has_route}
use Rattle.cone_spec.specs.Validity.{from_boundary}
use Rattle.cone_form.proofs.Walks.{and_then, and_else}
use Rattle.bound_design.specs.Covering.{leads_into}
use Rattle.bound_design.proofs.LegRoutes.{all_same}
use Rattle.bound_design.proofs.before.follow_among.Goals as goal

pub returns-then-not-none_is_first : goal.returns-then-not-none_is_first
returns-then-not-none_is_first c =
    let none_first = c.none_is_first.ensures ∙ (ap (λ (rs : List (Bor Route)). list_all (λ r. not (from_boundary (r.now ∷ []))) rs) c.as_slice.ensures.value ∙ c.in_ok-routes.ensures (λ r. not (from_boundary (r ∷ [])))) in
    sym c.if-not-none_is_first.true ∙ and_else _ none_first c.if-not-none_is_first.true

pub returns : goal.returns
returns c =
    let routes = c.args.interlocking.now.routes in
    let none_first = c.none_is_first.ensures ∙ (ap (λ (rs : List (Bor Route)). list_all (λ r. not (from_boundary (r.now ∷ []))) rs) c.as_slice.ensures.value ∙ c.in_ok-routes.ensures (λ r. not (from_boundary (r ∷ [])))) in
    let leads = c.none_leads_into.ensures
    ∙ (ap (λ (rs : List (Bor Route)). list_all (λ r. not (leads_into c.in_ok-starts.starts r.now.finish)) rs) c.as_slice-2.ensures.value
    ∙ (c.in_ok-open.ensures (λ r. leads_into c.in_ok-starts.starts r.finish)
    ∙ all_same _ _ (route_numbers routes) (λ r m. ap (λ b. not b || has_route c.args.own.now r || has_route c.args.kept.now r) (c.in_ok-starts.ensures (route_at routes r).finish)))) in
    and_then none_first c.if-not-none_is_first.false leads
