use Rattle.std.proofs.Common.{◌+◌, ◌-◌, List, ◌++◌, map, sym, ap, ◌∙◌}
use Rattle.rail_base.specs.declared.route.RouteNo.{RouteNo}
use Rattle.rail_base.specs.Numbering.{count_from}
use Rattle.rail_base.proofs.Members.{map-map}
use Rattle.interlocking.specs.declared.railway.Interlocking.{Interlocking}
use Rattle.route_keepers.specs.Keepers.{all_keepers, keepers_of}
use Rattle.route_keepers.proofs.Listing.{all_numbers, each_done, each_next, route_no}
use Rattle.route_keepers.proofs.keeping.keepers.Goals as goal

pub loop-number-init : goal.loop-number-init
loop-number-init c =
    let routes = c.args.interlocking.now.routes in
    ap (λ (ls : List (List RouteNo)). ls ++ map (λ n. keepers_of routes (route_no n)) (count_from 1 (c.len.result + 1 - 1))) c.new-rows.ensures.items
    ∙ sym (map-map (keepers_of routes) route_no (count_from 1 (c.len.result + 1 - 1)))
    ∙ ap (map (keepers_of routes)) (all_numbers routes c.len.result c.len.ensures)

pub loop-number-preserved : goal.loop-number-preserved
loop-number-preserved c =
    let routes = c.args.interlocking.now.routes in
    let same = ap (λ (i : Interlocking). keepers_of i.routes (route_no c.loop-number.number)) c.in_ok-chains.ensures in
    each_next (λ n. keepers_of routes (route_no n)) c.loop-number.rows.items c.push.new.self.items c.in_ok-keepers_of.field-0 c.loop-number.number (c.len.result + 1) (all_keepers routes) c.loop-number-test.true c.in_ok-push.ensures.items (c.in_ok-keepers_of.ensures ∙ same) c.loop-number.invariant

pub returns : goal.returns
returns c =
    let routes = c.args.interlocking.now.routes in
    each_done (λ n. keepers_of routes (route_no n)) c.loop-number.rows.items c.loop-number.number (c.len.result + 1) (all_keepers routes) c.loop-number-test.false c.loop-number.invariant
