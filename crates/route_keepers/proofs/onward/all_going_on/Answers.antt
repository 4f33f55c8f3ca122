use Rattle.std.proofs.Common.{◌+◌, ◌-◌, List, ◌++◌, map, sym, ap, ◌∙◌}
use Rattle.rail_base.specs.declared.route.RouteNo.{RouteNo}
use Rattle.rail_base.specs.Numbering.{count_from}
use Rattle.rail_base.proofs.Members.{map-map}
use Rattle.route_keepers.specs.Chains.{all_going_on, going_on}
use Rattle.route_keepers.proofs.Listing.{all_numbers, each_done, each_next, route_no}
use Rattle.route_keepers.proofs.onward.all_going_on.Goals as goal

pub loop-number-init : goal.loop-number-init
loop-number-init c =
    let routes = c.args.interlocking.now.routes in
    ap (λ (ls : List (List RouteNo)). ls ++ map (λ n. going_on routes (route_no n)) (count_from 1 (c.len.result + 1 - 1))) c.new-lists.ensures.items
    ∙ sym (map-map (going_on routes) route_no (count_from 1 (c.len.result + 1 - 1)))
    ∙ ap (map (going_on routes)) (all_numbers routes c.len.result c.len.ensures)

pub loop-number-preserved : goal.loop-number-preserved
loop-number-preserved c =
    let routes = c.args.interlocking.now.routes in
    each_next (λ n. going_on routes (route_no n)) c.loop-number.lists.items c.push.new.self.items c.in_ok-going_on.field-0 c.loop-number.number (c.len.result + 1) (all_going_on routes) c.loop-number-test.true c.in_ok-push.ensures.items c.in_ok-going_on.ensures c.loop-number.invariant

pub returns : goal.returns
returns c =
    let routes = c.args.interlocking.now.routes in
    each_done (λ n. going_on routes (route_no n)) c.loop-number.lists.items c.loop-number.number (c.len.result + 1) (all_going_on routes) c.loop-number-test.false c.loop-number.invariant
