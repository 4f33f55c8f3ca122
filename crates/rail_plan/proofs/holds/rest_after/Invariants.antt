use Rattle.std.proofs.Common.{◌≡◌, drop, map}
use Rattle.rail_spec.specs.Plans.{route_at, routes_given}
use Rattle.rail_plan.specs.Holds.{rest_after}
use Rattle.rail_plan.proofs.holds.rest_after.Given as goal

-- what is left goes to the rest of the step
abbrev pub invariant-loop-command : goal.invariant-loop-command
invariant-loop-command l = rest_after l.left (map (route_at l.routes) (routes_given l.train (drop l.command-index l.command-items))) ≡ rest_after l.fn.left (map (route_at l.routes) (routes_given l.train l.command-items))
