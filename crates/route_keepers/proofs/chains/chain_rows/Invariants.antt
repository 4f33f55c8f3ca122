use Rattle.std.proofs.Common.{◌≡◌, ◌-◌, ◌++◌, map}
use Rattle.rail_base.specs.Numbering.{count_from}
use Rattle.route_keepers.specs.Chains.{chain_row, chain_rows}
use Rattle.route_keepers.proofs.Listing.{route_no}
use Rattle.route_keepers.proofs.chains.chain_rows.Given as goal

abbrev pub invariant-loop-number : goal.invariant-loop-number
invariant-loop-number l =
    l.rows.items ++ map (λ n. chain_row l.interlocking.routes (route_no n)) (count_from l.number (l.number-end - l.number)) ≡ chain_rows l.interlocking.routes
