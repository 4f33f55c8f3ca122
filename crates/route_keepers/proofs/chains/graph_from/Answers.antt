use Rattle.std.proofs.Common.{◌≡◌, ℕ, ◌+◌, List, [], ◌∷◌, ◌++◌, drop, map, sym, ap, ◌∙◌, append-nil}
use Rattle.std.proofs.lemmas.List.{at_drop_all, at_drop_more}
use Rattle.rail_base.specs.declared.route.RouteNo.{RouteNo}
use Rattle.rail_spec.specs.Plans.{goes_on, route_at}
use Rattle.route_keepers.specs.Chains.{going_on, nodes_apart}
use Rattle.route_keepers.proofs.Listing.{item_next, route_no}
use Rattle.route_keepers.proofs.Stepping.{kept_are, read_at}
use Rattle.route_keepers.proofs.chains.graph_from.Goals as goal

pub loop-routes-init : goal.loop-routes-init
loop-routes-init c =
    let routes = c.args.interlocking.now.routes in
    ap (λ (ls : List (List ℕ)). ls ++ map (nodes_apart routes c.args.first) c.args.onward.now) c.new-graph.ensures.items

pub nodes_apart-requires-clause-routes : goal.nodes_apart-requires-clause-routes
nodes_apart-requires-clause-routes c =
    let routes = c.args.interlocking.now.routes in
    let i = c.loop-routes.routes-index in
    let r = route_no (i + 1) in
    let row = read_at routes (going_on routes) c.args.onward.now i c.routes-item.result c.requires.onward c.loop-routes-test.true c.routes-item.is in
    kept_are routes (λ q. goes_on (route_at routes r).finish (route_at routes q).start) c.as_slice.result.now (c.as_slice.ensures ∙ row)

pub loop-routes-preserved : goal.loop-routes-preserved
loop-routes-preserved c =
    let routes = c.args.interlocking.now.routes in
    let onward = c.args.onward.now in
    let i = c.loop-routes.routes-index in
    let f : List RouteNo → List ℕ = nodes_apart routes c.args.first in
    let row : List RouteNo = c.routes-item.result in
    let step : map f (drop i onward) ≡ f row ∷ map f (drop (i + 1) onward) = at_drop_more (map f) onward i row c.loop-routes-test.true ∙ ap (λ (x : List RouteNo). f x ∷ map f (drop (i + 1) onward)) (sym c.routes-item.is) in
    let put : c.push.new.self.items ≡ c.loop-routes.graph.items ++ f row ∷ [] = c.in_ok-push.ensures.items ∙ ap (λ x. c.loop-routes.graph.items ++ x ∷ []) (c.in_ok-nodes_apart.ensures ∙ ap f c.as_slice.ensures) in
    item_next f c.loop-routes.graph.items c.push.new.self.items row (drop i onward) (drop (i + 1) onward) (map f onward) step put c.loop-routes.invariant

pub returns : goal.returns
returns c =
    let routes = c.args.interlocking.now.routes in
    let f : List RouteNo → List ℕ = nodes_apart routes c.args.first in
    sym (append-nil c.loop-routes.graph.items) ∙ sym (ap (λ ls. c.loop-routes.graph.items ++ ls) (at_drop_all (map f) c.args.onward.now c.loop-routes.routes-index c.loop-routes-test.false)) ∙ c.loop-routes.invariant
    ∙ ap (map f) c.requires.onward
