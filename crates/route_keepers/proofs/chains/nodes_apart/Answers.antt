use Rattle.std.proofs.Common.{◌≡◌, ℕ, ◌+◌, ◌-◌, not, List, ◌∷◌, ◌++◌, drop, get_or, sym, ap, ap₂, ◌∙◌, append-nil}
use Rattle.std.proofs.lemmas.List.{at_drop_all, at_drop_more}
use Rattle.rail_base.specs.declared.route.Route.{Route}
use Rattle.rail_base.specs.declared.route.RouteNo.{RouteNo}
use Rattle.rail_spec.specs.Plans.{is_start, route_at}
use Rattle.route_keepers.specs.Chains.{nodes_apart, start_apart}
use Rattle.route_keepers.proofs.Listing.{placed_next, placed_none}
use Rattle.route_keepers.proofs.chains.nodes_apart.Goals as goal
use Rattle.route_keepers.proofs.chains.nodes_apart.Goals.{then-not-is_start+in_ok-push, else-not-is_start}

pub loop-route-init : goal.loop-route-init
loop-route-init c = ap (λ (ns : List ℕ). ns ++ nodes_apart c.args.interlocking.now.routes c.args.first c.args.routes.now) c.new-nodes.ensures

pub loop-route-preserved : goal.loop-route-preserved
loop-route-preserved c =
    let table = c.args.interlocking.now.routes in
    let routes = c.args.routes.now in
    let i = c.loop-route.route-index in
    let first = c.args.first in
    let node : RouteNo → ℕ = λ q. q.0 - 1 in
    let r : RouteNo = get_or routes i (record { 0 = 0 }) in
    let nodes = c.loop-route.nodes in
    let all = nodes_apart table first routes in
    let step : nodes_apart table first (drop i routes) ≡ nodes_apart table first (r ∷ drop (i + 1) routes) = at_drop_more (nodes_apart table first) routes i (record { 0 = 0 }) c.loop-route-test.true in
    let starts : is_start c.route.result.now.start c.route-in-loop-route.result.now.start ≡ is_start (route_at table first).start (route_at table r).start = ap₂ (λ (q s : Route). is_start q.start s.start) c.route.ensures c.route-in-loop-route.ensures in
    elim c.if-not-is_start.branch [
      | then-not-is_start+in_ok-push w ↦ placed_next node (start_apart table first) nodes c.if-not-is_start.nodes r (drop i routes) (drop (i + 1) routes) all step (ap not (sym (w.if-not-is_start.ensures ∙ starts))) (w.nodes-is ∙ w.in_ok-push.ensures.ok) c.loop-route.invariant
      | else-not-is_start w ↦ placed_none node (start_apart table first) nodes c.if-not-is_start.nodes r (drop i routes) (drop (i + 1) routes) all step (ap not (sym (w.if-not-is_start.ensures ∙ starts))) w.nodes-is c.loop-route.invariant
    ]

pub returns : goal.returns
returns c =
    let f : List RouteNo → List ℕ = nodes_apart c.args.interlocking.now.routes c.args.first in
    sym (append-nil c.loop-route.nodes) ∙ sym (ap (λ ns. c.loop-route.nodes ++ ns) (at_drop_all f c.args.routes.now c.loop-route.route-index c.loop-route-test.false)) ∙ c.loop-route.invariant
