use Rattle.std.proofs.Common.{◌≡◌, ◌++◌, drop}
use Rattle.rail_plan.specs.Named.{HaveRoutes}
use Rattle.rail_plan.specs.Earlier.{joined, left_over}
use Rattle.rail_plan.proofs.normal.join.Given as goal

-- the rest of the step is still to be looked at
abbrev pub invariant-loop-command : goal.invariant-loop-command
invariant-loop-command l = record {
  joined : joined l.interlocking.routes l.holds l.last (drop l.command-index l.command-items) ≡ joined l.interlocking.routes l.holds l.fn.last l.command-items;
  left : l.left ++ left_over l.interlocking.routes l.holds l.last (drop l.command-index l.command-items) ≡ left_over l.interlocking.routes l.holds l.fn.last l.command-items;
  routes : HaveRoutes l.interlocking.routes l.last;
}
