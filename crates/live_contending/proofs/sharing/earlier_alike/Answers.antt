use Rattle.std.proofs.Common.{◌≡◌, true, ap, sym, ◌∙◌, eqb-true}
use Rattle.rail_base.specs.declared.route.RouteNo.{RouteNo}
use Rattle.rail_spec.specs.Plans.{is_route}
use Rattle.command_set.proofs.Alike.{list_told}
use Rattle.live_contending.proofs.sharing.earlier_alike.Goals as goal

same_route : (r q : RouteNo) → is_route r q ≡ true → r ≡ q
same_route r q h = ap (λ n. let x : RouteNo = record { 0 = n } in x) (eqb-true r.0 q.0 h)

pub returns-then-are_same-clause-alike : goal.returns-then-are_same-clause-alike
returns-then-are_same-clause-alike c =
    let same = list_told is_route same_route c.routes_of.result.now c.routes_of-routes.result.now (sym c.are_same.ensures ∙ c.if-are_same.true) in
    sym c.routes_of.ensures.value ∙ (same ∙ c.routes_of-routes.ensures.value)
