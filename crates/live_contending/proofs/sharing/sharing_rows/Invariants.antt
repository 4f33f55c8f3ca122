use Rattle.std.proofs.Common.{◌≡◌, ◌-◌, filter, map}
use Rattle.rail_base.specs.Numbering.{one_to}
use Rattle.live_contending.specs.Rows.{shares}
use Rattle.live_contending.proofs.sharing.sharing_rows.Given as goal

-- those so far
abbrev pub invariant-loop-number : goal.invariant-loop-number
invariant-loop-number l = l.rows.items ≡ map (λ n. filter (shares l.interlocking.routes (record { 0 = n })) l.among) (one_to (l.number - 1))
