use Rattle.std.proofs.Common.{◌≡◌, ◌-◌, map}
use Rattle.rail_base.specs.Numbering.{one_to}
use Rattle.command_set.proofs.rows.all_routes.Given as goal

-- those so far
abbrev pub invariant-loop-number : goal.invariant-loop-number
invariant-loop-number l = l.row ≡ map (λ n. record { 0 = n }) (one_to (l.number - 1))
