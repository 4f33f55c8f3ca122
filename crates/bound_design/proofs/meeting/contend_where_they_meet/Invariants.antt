use Rattle.std.proofs.Common.{◌≡◌, Bool, drop}
use Rattle.std.specs.List.{list_all}
use Rattle.rail_base.specs.declared.route.RouteNo.{RouteNo}
use Rattle.bound_spec.specs.Certificates.{first_of_leg}
use Rattle.bound_design.specs.Named.{contends_with_in}
use Rattle.bound_design.proofs.meeting.contend_where_they_meet.Given as goal

-- those so far do so
abbrev pub invariant-loop-route : goal.invariant-loop-route
invariant-loop-route l =
    let test : RouteNo → Bool = λ r. contends_with_in l.interlocking (record { train = l.leg.train; route = r }) l.next.train (first_of_leg l.next) in
    list_all test (drop l.route-index l.route-items) ≡ list_all test l.route-items
