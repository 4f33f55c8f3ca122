use Rattle.std.proofs.Common.{◌≡◌, ◌-◌, map}
use Rattle.rail_base.specs.Numbering.{one_to}
use Rattle.rail_spec.specs.Plans.{route_numbers}
use Rattle.command_set.proofs.rows.all_rows.Given as goal

-- those so far
abbrev pub invariant-loop-train : goal.invariant-loop-train
invariant-loop-train l = l.rows.items ≡ map (λ n. route_numbers l.interlocking.routes) (one_to (l._train - 1))
