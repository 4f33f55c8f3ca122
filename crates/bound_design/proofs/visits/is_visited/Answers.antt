use Rattle.std.proofs.Common.{All, List, sym, ap, subst, ◌∙◌}
use Rattle.rail_base.specs.declared.route.RouteNo.{RouteNo}
use Rattle.rail_base.specs.Routes.{IsRoute}
use Rattle.bound_spec.specs.Validity.{place_in_design}
use Rattle.bound_design.proofs.LegRoutes.{kept_there}
use Rattle.bound_design.proofs.visits.is_visited.Goals as goal

pub is_visited_among-requires-clause-kept : goal.is_visited_among-requires-clause-kept
is_visited_among-requires-clause-kept c =
    let i = c.args.interlocking.now in
    subst (λ (rs : List RouteNo). All (IsRoute i.routes) rs) (sym c.as_slice-kept.ensures) (kept_there i.design.station i.routes c.in-Among.routes c.in-Among.without (sym (ap (place_in_design i.design.station i.routes) c.in-Among.is) ∙ c.requires))
