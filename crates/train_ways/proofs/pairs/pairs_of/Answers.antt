use Rattle.std.proofs.Common.{◌≡◌, ℕ, ◌+◌, List, [], ◌∷◌, ◌++◌, drop, get_or, map, sym, ap, ◌∙◌, append-nil}
use Rattle.std.proofs.lemmas.List.{at_drop_all, at_drop_more}
use Rattle.rail_base.specs.declared.route.RouteNo.{RouteNo}
use Rattle.train_ways.specs.Pairs.{pair_of}
use Rattle.train_ways.proofs.Listing.{one_more}
use Rattle.train_ways.proofs.pairs.pairs_of.Goals as goal

pub loop-route-init : goal.loop-route-init
loop-route-init c = ap (λ (ps : List ℕ). ps ++ map (λ q. pair_of c.args.width q c.args.made) c.args.routes.now) c.new-pairs.ensures

pub loop-route-preserved : goal.loop-route-preserved
loop-route-preserved c =
    let routes = c.args.routes.now in
    let i = c.loop-route.route-index in
    let f : RouteNo → ℕ = λ q. pair_of c.args.width q c.args.made in
    let r : RouteNo = get_or routes i (record { 0 = 0 }) in
    let put : c.push.new.self ≡ c.loop-route.pairs ++ f r ∷ [] = c.in_ok-push.ensures.ok ∙ ap (λ x. c.loop-route.pairs ++ x ∷ []) c.pair_of.ensures in
    let step : map f (drop i routes) ≡ f r ∷ map f (drop (i + 1) routes) = at_drop_more (map f) routes i (record { 0 = 0 }) c.loop-route-test.true in
    ap (λ ps. ps ++ map f (drop (i + 1) routes)) put ∙ one_more c.loop-route.pairs (f r) (map f (drop (i + 1) routes)) ∙ sym (ap (λ ps. c.loop-route.pairs ++ ps) step) ∙ c.loop-route.invariant

pub returns : goal.returns
returns c =
    let f : RouteNo → ℕ = λ q. pair_of c.args.width q c.args.made in
    sym (append-nil c.loop-route.pairs) ∙ sym (ap (λ ps. c.loop-route.pairs ++ ps) (at_drop_all (map f) c.args.routes.now c.loop-route.route-index c.loop-route-test.false)) ∙ c.loop-route.invariant
