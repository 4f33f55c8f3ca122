use Rattle.std.proofs.Common.{Bool, ◌+◌, ◌-◌, List, ◌++◌, map, sym, ap, ◌∙◌}
use Rattle.rail_base.specs.Numbering.{count_from}
use Rattle.rail_base.proofs.Members.{map-map}
use Rattle.route_keepers.specs.Chains.{chain_row, chain_rows}
use Rattle.route_keepers.proofs.Listing.{all_numbers, each_done, each_next, route_no}
use Rattle.route_keepers.proofs.chains.chain_rows.Goals as goal

pub loop-number-init : goal.loop-number-init
loop-number-init c =
    let routes = c.args.interlocking.now.routes in
    ap (λ (ls : List (List Bool)). ls ++ map (λ n. chain_row routes (route_no n)) (count_from 1 (c.len.result + 1 - 1))) c.new-rows.ensures.items
    ∙ sym (map-map (chain_row routes) route_no (count_from 1 (c.len.result + 1 - 1)))
    ∙ ap (map (chain_row routes)) (all_numbers routes c.len.result c.len.ensures)

pub loop-number-preserved : goal.loop-number-preserved
loop-number-preserved c =
    let routes = c.args.interlocking.now.routes in
    each_next (λ n. chain_row routes (route_no n)) c.loop-number.rows.items c.push.new.self.items c.in_ok-chain_row.field-0 c.loop-number.number (c.len.result + 1) (chain_rows routes) c.loop-number-test.true c.in_ok-push.ensures.items c.in_ok-chain_row.ensures c.loop-number.invariant

pub returns : goal.returns
returns c =
    let routes = c.args.interlocking.now.routes in
    each_done (λ n. chain_row routes (route_no n)) c.loop-number.rows.items c.loop-number.number (c.len.result + 1) (chain_rows routes) c.loop-number-test.false c.loop-number.invariant
