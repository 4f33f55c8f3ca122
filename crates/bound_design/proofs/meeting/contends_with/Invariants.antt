use Rattle.std.proofs.Common.{◌≡◌, Bool, drop}
use Rattle.std.specs.List.{list_all}
use Rattle.rail_base.specs.declared.route.RouteNo.{RouteNo}
use Rattle.bound_design.specs.Named.{contend_over_own_in}
use Rattle.bound_design.proofs.meeting.contends_with.Given as goal

-- the command does so with those so far
abbrev pub invariant-loop-route : goal.invariant-loop-route
invariant-loop-route l =
    let test : RouteNo → Bool = λ r. contend_over_own_in l.interlocking l.command (record { train = l.train; route = r }) in
    list_all test (drop l.route-index l.routes) ≡ list_all test l.routes
