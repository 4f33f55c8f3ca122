use Rattle.std.proofs.Common.{ℕ, List, [], ◌∷◌, Bor, ◌==◌, nat_le, sym, ap, ap₂, ◌∙◌, arith, le-leb, eq-eqb, eqb-true}
use Rattle.std.proofs.lemmas.Bool.{lt-leb}
use Rattle.std.specs.List.{list_all}
use Rattle.rail_base.specs.declared.station.NodeNo.{NodeNo}
use Rattle.rail_base.specs.declared.route.Route.{Route}
use Rattle.rail_base.specs.declared.route.RouteNo.{RouteNo}
use Rattle.rail_base.proofs.Members.{false_unless}
use Rattle.rail_spec.specs.Plans.{route_at}
use Rattle.rail_spec.specs.Places.{may_visit}
use Rattle.cone_spec.specs.Validity.{from_boundary}
use Rattle.bound_spec.specs.Certificates.{VisitOf, routes_of_place}
use Rattle.bound_spec.specs.Validity.{can_visit, is_first_route, is_made_at_end}
use Rattle.bound_design.specs.Covered.{is_made_where_it_exits}
use Rattle.bound_design.proofs.Begun.{begun_first, begun_not, begun_second, begun_last, made_end}
use Rattle.bound_design.proofs.beginning.begins_with.Goals as goal

pub returns-then-visit-le1 : goal.returns-then-visit-le1
returns-then-visit-le1 c =
    let i = c.args.interlocking.now in
    let d = i.design.station in
    let routes = i.routes in
    let k = c.args.visit.1 in
    let rs = routes_of_place c.args.place.now in
    let first = list_all (is_first_route d routes) rs in
    let seen = c.all_first.ensures
    ∙ (ap (λ (qs : List (Bor Route)). list_all (λ r. from_boundary (r.now ∷ [])) qs) c.as_slice.ensures.value
    ∙ (c.in_ok-routes.ensures (λ r. from_boundary (r ∷ []))
    ∙ ap (λ (ns : List RouteNo). list_all (λ q. from_boundary (route_at routes q ∷ [])) ns) c.routes_of.ensures)) in
    begun_first (nat_le k 1) first _ _ (le-leb k 1 c.if-visit-le1.true) seen

pub returns-then-not-is_made_on_all : goal.returns-then-not-is_made_on_all
returns-then-not-is_made_on_all c =
    let i = c.args.interlocking.now in
    let d = i.design.station in
    let routes = i.routes in
    let t = c.args.visit.0 in
    let k = c.args.visit.1 in
    let rs = routes_of_place c.args.place.now in
    let v : VisitOf = record { train = t; number = k } in
    let first = list_all (is_first_route d routes) rs in
    let end = is_made_at_end d routes v in
    let can = list_all (can_visit d routes t k) rs in
    let made = c.in_ok-made.made in
    let seen = c.is_made_on_all.ensures
    ∙ (ap (λ (qs : List (Bor Route)). list_all (λ r. may_visit made.number made.list.now r.now) qs) c.as_slice-2.ensures.value
    ∙ (c.in_ok-routes.ensures (λ r. may_visit made.number made.list.now r)
    ∙ (ap (λ (ns : List RouteNo). list_all (λ q. may_visit made.number made.list.now (route_at routes q)) ns) c.routes_of.ensures
    ∙ ap₂ (λ (n : ℕ) (l : List NodeNo). list_all (λ q. may_visit n l (route_at routes q)) rs) c.in_ok-made.ensures.number c.in_ok-made.ensures.list))) in
    begun_not (nat_le k 1) first can (k == 2) end (lt-leb k 1 c.if-visit-le1.false) (sym seen ∙ c.if-not-is_made_on_all.true)

pub returns-then-visit-eq2 : goal.returns-then-visit-eq2
returns-then-visit-eq2 c =
    let i = c.args.interlocking.now in
    let d = i.design.station in
    let routes = i.routes in
    let t = c.args.visit.0 in
    let k = c.args.visit.1 in
    let rs = routes_of_place c.args.place.now in
    let v : VisitOf = record { train = t; number = k } in
    let first = list_all (is_first_route d routes) rs in
    let end = is_made_at_end d routes v in
    let can = list_all (can_visit d routes t k) rs in
    let made = c.in_ok-made.made in
    let seen = c.is_made_on_all.ensures
    ∙ (ap (λ (qs : List (Bor Route)). list_all (λ r. may_visit made.number made.list.now r.now) qs) c.as_slice-2.ensures.value
    ∙ (c.in_ok-routes.ensures (λ r. may_visit made.number made.list.now r)
    ∙ (ap (λ (ns : List RouteNo). list_all (λ q. may_visit made.number made.list.now (route_at routes q)) ns) c.routes_of.ensures
    ∙ ap₂ (λ (n : ℕ) (l : List NodeNo). list_all (λ q. may_visit n l (route_at routes q)) rs) c.in_ok-made.ensures.number c.in_ok-made.ensures.list))) in
    begun_second (nat_le k 1) first can (k == 2) end (lt-leb k 1 c.if-visit-le1.false) (sym seen ∙ c.if-not-is_made_on_all.false) (eq-eqb k 2 c.if-visit-eq2.true)

pub returns : goal.returns
returns c =
    let i = c.args.interlocking.now in
    let d = i.design.station in
    let routes = i.routes in
    let t = c.args.visit.0 in
    let k = c.args.visit.1 in
    let rs = routes_of_place c.args.place.now in
    let v : VisitOf = record { train = t; number = k } in
    let first = list_all (is_first_route d routes) rs in
    let end = is_made_at_end d routes v in
    let can = list_all (can_visit d routes t k) rs in
    let made = c.in_ok-made.made in
    let seen = c.is_made_on_all.ensures
    ∙ (ap (λ (qs : List (Bor Route)). list_all (λ r. may_visit made.number made.list.now r.now) qs) c.as_slice-2.ensures.value
    ∙ (c.in_ok-routes.ensures (λ r. may_visit made.number made.list.now r)
    ∙ (ap (λ (ns : List RouteNo). list_all (λ q. may_visit made.number made.list.now (route_at routes q)) ns) c.routes_of.ensures
    ∙ ap₂ (λ (n : ℕ) (l : List NodeNo). list_all (λ q. may_visit n l (route_at routes q)) rs) c.in_ok-made.ensures.number c.in_ok-made.ensures.list))) in
    let late = c.if-visit-le1.false in
    let last = c.in_ok-last.ensures ∙ (ap₂ (λ (n : ℕ) (l : List NodeNo). is_made_where_it_exits i n l) c.in_ok-made.ensures.number c.in_ok-made.ensures.list ∙ made_end i t k (omega arith)) in
    begun_last (nat_le k 1) first can (k == 2) end _ (lt-leb k 1 c.if-visit-le1.false) (sym seen ∙ c.if-not-is_made_on_all.false) (false_unless (k == 2) (λ h. c.if-visit-eq2.false (eqb-true k 2 h))) last
