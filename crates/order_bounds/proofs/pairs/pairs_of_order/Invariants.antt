use Rattle.std.proofs.Common.{◌≡◌, filter, flat_map, map, take}
use Rattle.rail_spec.specs.Plans.{contend}
use Rattle.order_bounds.specs.Asked.{makes_it}
use Rattle.order_bounds.proofs.pairs.pairs_of_order.Given as goal

-- the pairs of the commands so far are there
abbrev pub invariant-loop-command : goal.invariant-loop-command
invariant-loop-command l =
    let routes = l.contention.interlocking.now.routes in
    l.pairs.items ≡ flat_map (λ e. map (λ c. (e, c)) (filter (makes_it routes l.order.first_train l.earlier.number l.earlier.list.now) (filter (contend routes e) l.contention.pairs.now.commands))) (take l.command-index l.command-items)
