use Rattle.std.proofs.Common.{◌∙◌, sym, not, true≢false}
use Rattle.std.specs.List.{list_any}
use Rattle.rail_base.specs.Routes.{has_section, own_sections, route_at, share}
use Rattle.rail_spec.specs.Plans.{is_train}
use Rattle.bound_chains.proofs.Sharing.{apart-first, apart-second, apart-over}
use Rattle.bound_chains.proofs.known.contend_over_own.Goals.{then-is_route, else-is_route}
use Rattle.bound_chains.proofs.known.contend_over_own.Goals as goal

pub returns-else-is_route-2 : goal.returns-else-is_route-2
returns-else-is_route-2 c =
    let routes = c.args.interlocking.now.routes in
    let first = c.args.first in
    let second = c.args.second in
    let differ = not (is_train first.train second.train) in
    let shares = share (route_at routes first.route) (route_at routes second.route) in
    let over = list_any (has_section (route_at routes second.route)) (own_sections (route_at routes first.route)) in
    let none = c.if-is_route-2.false in
    elim c.if-is_route.branch [
      | then-is_route w ↦ none ∙ apart-over differ shares over (apart-second routes first.route second.route
          (λ k. true≢false (sym (w.is_route-then-is_route.ensures.all k) ∙ (sym w.value-is ∙ none))))
      | else-is_route w ↦ none ∙ apart-over differ shares over (apart-first routes first.route second.route
          (λ k. true≢false (sym (c.is_route.ensures.all k) ∙ w.if-is_route.false)))
    ]
