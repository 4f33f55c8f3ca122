use Rattle.std.proofs.Common.{rules, ◌≡◌, ℕ, ◌-◌, ◌/◌, ◌≤◌, ◌<◌, List, ◌++◌, get_or, map, length, sym, ap, subst, ◌∙◌, arith}
use Rattle.rail_base.specs.Numbering.{count_from}
use Rattle.train_ways.specs.Pairs.{graph, many, next_pairs, onward, pair_of, route_of}
use Rattle.train_ways.proofs.Listing.{each_done, each_next}
use Rattle.train_ways.proofs.Pairing.{made_entry, made_high, made_low, made_many, onward_low, onward_many, pair_below, row_of}
use Rattle.train_ways.proofs.pairs.next_pairs.Goals as goal

pub loop-pair-init : goal.loop-pair-init
loop-pair-init c =
    let routes = c.args.interlocking.now.routes in
    let sets = c.args.visits.now in
    let long : length c.args.made.now ≡ many routes sets = ap length c.requires.made ∙ made_many routes sets in
    let end : length c.args.made.now - 0 ≡ many routes sets = omega arith in
    ap (λ (ls : List (List ℕ)). ls ++ map (next_pairs routes sets) (count_from 0 (length c.args.made.now - 0))) c.new-next.ensures.items
    ∙ ap (λ n. map (next_pairs routes sets) (count_from 0 n)) end

pub offset_bounds-onward-pair : goal.offset_bounds-onward-pair
offset_bounds-onward-pair c =
    let few = c.args.interlocking.now.at_most_2000 in
    let below = pair_below c.args.interlocking.now.routes c.args.visits.now c.args.made.now c.loop-pair.pair c.requires.low c.requires.made c.loop-pair-test.true in
    search rules

pub bounds-onward-pair : goal.bounds-onward-pair
bounds-onward-pair c =
    let routes = c.args.interlocking.now.routes in
    let below = pair_below routes c.args.visits.now c.args.made.now c.loop-pair.pair c.requires.low c.requires.made c.loop-pair-test.true in
    subst (λ n. c.loop-pair.pair / length c.args.visits.now < n) (sym (ap length c.requires.onward ∙ onward_many routes)) below

pub pairs_of-requires-clause-routes : goal.pairs_of-requires-clause-routes
pairs_of-requires-clause-routes c =
    let routes = c.args.interlocking.now.routes in
    let sets = c.args.visits.now in
    let p = c.loop-pair.pair in
    let below = pair_below routes sets c.args.made.now p c.requires.low c.requires.made c.loop-pair-test.true in
    onward_low routes (route_of (length sets) p) c.as_slice-routes.result.now (row_of routes c.args.onward.now (p / length sets) c.as_slice-routes.result.now c.index-onward-pair.result c.requires.onward below c.index-onward-pair.is c.as_slice-routes.ensures)

pub pairs_of-requires-clause-made : goal.pairs_of-requires-clause-made
pairs_of-requires-clause-made c =
    let routes = c.args.interlocking.now.routes in
    let sets = c.args.visits.now in
    let is = made_entry routes sets c.args.made.now c.loop-pair.pair c.requires.made c.loop-pair-test.true in
    subst (λ n. 1 ≤ n) (sym is) (made_low routes sets c.requires.low c.loop-pair.pair)

pub pairs_of-requires-clause-within : goal.pairs_of-requires-clause-within
pairs_of-requires-clause-within c =
    let routes = c.args.interlocking.now.routes in
    let sets = c.args.visits.now in
    let is = made_entry routes sets c.args.made.now c.loop-pair.pair c.requires.made c.loop-pair-test.true in
    subst (λ n. n ≤ length sets) (sym is) (made_high routes sets c.requires.low c.loop-pair.pair)

pub loop-pair-preserved : goal.loop-pair-preserved
loop-pair-preserved c =
    let routes = c.args.interlocking.now.routes in
    let sets = c.args.visits.now in
    let p = c.loop-pair.pair in
    let below = pair_below routes sets c.args.made.now p c.requires.low c.requires.made c.loop-pair-test.true in
    let row = row_of routes c.args.onward.now (p / length sets) c.as_slice-routes.result.now c.index-onward-pair.result c.requires.onward below c.index-onward-pair.is c.as_slice-routes.ensures in
    let is : c.in_ok-pairs_of.field-0 ≡ next_pairs routes sets p =
    c.in_ok-pairs_of.ensures
    ∙ ap (map (λ q. pair_of (length sets) q (get_or c.args.made.now p 0))) row
    ∙ ap (λ j. map (λ q. pair_of (length sets) q j) (onward routes (route_of (length sets) p))) (made_entry routes sets c.args.made.now p c.requires.made c.loop-pair-test.true) in
    each_next (next_pairs routes sets) c.loop-pair.next.items c.push.new.self.items c.in_ok-pairs_of.field-0 p (length c.args.made.now) (graph routes sets) c.loop-pair-test.true c.in_ok-push.ensures.items is c.loop-pair.invariant

pub returns : goal.returns
returns c =
    let routes = c.args.interlocking.now.routes in
    let sets = c.args.visits.now in
    each_done (next_pairs routes sets) c.loop-pair.next.items c.loop-pair.pair (length c.args.made.now) (graph routes sets) c.loop-pair-test.false c.loop-pair.invariant
