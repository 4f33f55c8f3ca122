use Rattle.std.proofs.Common.{All, List, sym, ap, subst, ◌∙◌}
use Rattle.rail_base.specs.declared.route.RouteNo.{RouteNo}
use Rattle.rail_base.specs.Routes.{IsRoute}
use Rattle.bound_spec.specs.declared.Place.{Place}
use Rattle.bound_spec.specs.Validity.{place_in_design}
use Rattle.bound_design.specs.Covered.{comes_before_in, follows_among}
use Rattle.bound_design.proofs.LegRoutes.{kept_there, routes_there}
use Rattle.bound_design.proofs.before.comes_before.Goals as goal

pub follow_named-requires-clause-next : goal.follow_named-requires-clause-next
follow_named-requires-clause-next c =
    let i = c.args.interlocking.now in
    subst (λ (rs : List RouteNo). All (IsRoute i.routes) rs) (sym c.routes_of-next.ensures) (routes_there i.design.station i.routes c.args.next.now c.requires.next)

pub follow_among-requires-clause-kept : goal.follow_among-requires-clause-kept
follow_among-requires-clause-kept c =
    let i = c.args.interlocking.now in
    subst (λ (rs : List RouteNo). All (IsRoute i.routes) rs) (sym c.as_slice-kept.ensures) (kept_there i.design.station i.routes c.in-Among.routes c.in-Among.without (sym (ap (place_in_design i.design.station i.routes) c.in-Among.is) ∙ c.requires.place))

pub follow_among-requires-clause-next : goal.follow_among-requires-clause-next
follow_among-requires-clause-next c =
    let i = c.args.interlocking.now in
    subst (λ (rs : List RouteNo). All (IsRoute i.routes) rs) (sym c.routes_of-next.ensures) (routes_there i.design.station i.routes c.args.next.now c.requires.next)

pub returns-in_ok-follow-in-Among : goal.returns-in_ok-follow-in-Among
returns-in_ok-follow-in-Among c =
    let i = c.args.interlocking.now in
    let next = c.args.next.now in
    c.in_ok-follow-in-Among.ensures
    ∙ (ap (λ (rs : List RouteNo). follows_among i rs c.as_slice-kept.result.now c.routes_of-next.result.now) c.as_slice-own.ensures
    ∙ (ap (λ (rs : List RouteNo). follows_among i c.in-Among.routes rs c.routes_of-next.result.now) c.as_slice-kept.ensures
    ∙ (ap (follows_among i c.in-Among.routes c.in-Among.without) c.routes_of-next.ensures
    ∙ sym (ap (λ (p : Place). comes_before_in i p next) c.in-Among.is))))
