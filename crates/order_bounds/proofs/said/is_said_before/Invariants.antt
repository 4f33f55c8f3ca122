use Rattle.std.proofs.Common.{◌≡◌, ◌-◌, ◌≤◌, false}
use Rattle.std.specs.List.{list_any}
use Rattle.order_bounds.specs.Asked.{says_of}
use Rattle.order_bounds.proofs.said.is_said_before.Given as goal
use Rattle.rail_base.specs.Numbering.{one_to}

-- no order so far says so
abbrev pub invariant-loop-earlier : goal.invariant-loop-earlier
invariant-loop-earlier l = record {
  some : 1 ≤ l.earlier;
  none : list_any (λ q. says_of l.design q l.pair) (one_to (l.earlier - 1)) ≡ false;
}
