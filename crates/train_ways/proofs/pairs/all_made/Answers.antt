use Rattle.std.proofs.Common.{◌≡◌, ℕ, ◌+◌, ◌-◌, ◌*◌, ◌%◌, List, ◌++◌, map, length, ap, ◌∙◌, arith}
use Rattle.rail_base.specs.declared.route.Route.{Route}
use Rattle.rail_base.specs.Numbering.{count_from}
use Rattle.rail_spec.specs.Plans.{route_at}
use Rattle.train_ways.specs.Pairs.{all_made, made, made_behind, many}
use Rattle.train_ways.proofs.Listing.{each_done, each_next}
use Rattle.train_ways.proofs.pairs.all_made.Goals as goal

pub loop-pair-init : goal.loop-pair-init
loop-pair-init c =
    let routes = c.args.interlocking.now.routes in
    let sets = c.args.visits.now in
    let w = length sets in
    let all : c.len.result * w ≡ many routes sets = ap (λ n. n * w) c.len.ensures in
    let end : c.len.result * w - 0 ≡ many routes sets = omega arith in
    ap (λ (ls : List ℕ). ls ++ map (made routes sets) (count_from 0 (c.len.result * w - 0))) c.new-made.ensures.items
    ∙ ap (λ n. map (made routes sets) (count_from 0 n)) end

pub loop-pair-preserved : goal.loop-pair-preserved
loop-pair-preserved c =
    let routes = c.args.interlocking.now.routes in
    let sets = c.args.visits.now in
    let p = c.loop-pair.pair in
    let route = c.route-route.ensures ∙ ap (route_at routes) c.route_of.ensures in
    let is = c.made_behind.ensures.made ∙ ap (λ (r : Route). made_behind sets r (p % length sets + 1)) route in
    each_next (made routes sets) c.loop-pair.made.items c.push.new.self.items c.made_behind.result p (c.len.result * length sets) (all_made routes sets) c.loop-pair-test.true c.in_ok-push.ensures.items is c.loop-pair.invariant

pub returns : goal.returns
returns c =
    let routes = c.args.interlocking.now.routes in
    let sets = c.args.visits.now in
    each_done (made routes sets) c.loop-pair.made.items c.loop-pair.pair (c.len.result * length sets) (all_made routes sets) c.loop-pair-test.false c.loop-pair.invariant
