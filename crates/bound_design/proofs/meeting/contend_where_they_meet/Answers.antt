use Rattle.std.proofs.Common.{Bool, List, All, get_or, sym, ap, subst, ◌∙◌}
use Rattle.std.specs.List.{list_all}
use Rattle.rail_base.specs.declared.route.RouteNo.{RouteNo}
use Rattle.rail_base.specs.declared.plan.Command.{Command}
use Rattle.rail_base.specs.Routes.{IsRoute}
use Rattle.bound_spec.specs.Certificates.{first_of_leg}
use Rattle.cone_form.proofs.Walks.{read_stop, read_next, all_end}
use Rattle.bound_design.specs.Named.{contend_over_own_in, contends_with_in}
use Rattle.bound_design.proofs.LegRoutes.{first_there, last_there}
use Rattle.bound_design.proofs.meeting.contend_where_they_meet.Goals as goal

pub contends_with-requires-clause-command : goal.contends_with-requires-clause-command
contends_with-requires-clause-command c =
    let i = c.args.interlocking.now in
    subst (All (IsRoute i.routes)) (sym c.last_routes-route-items.ensures) (last_there i.design.station i.routes c.args.leg.now c.requires.leg) c.loop-route.route-index (record { 0 = 0 }) c.loop-route-test.true

pub contends_with-requires-clause-routes : goal.contends_with-requires-clause-routes
contends_with-requires-clause-routes c =
    let i = c.args.interlocking.now in
    subst (All (IsRoute i.routes)) (sym c.first_routes.ensures) (first_there i.design.station i.routes c.args.next.now c.requires.next)

pub loop-route-preserved : goal.loop-route-preserved
loop-route-preserved c =
    let i = c.args.interlocking.now in
    let command : RouteNo → Command = λ r. record { train = c.args.leg.now.train; route = r } in
    let test : RouteNo → Bool = λ r. contends_with_in i (command r) c.args.next.now.train (first_of_leg c.args.next.now) in
    let items = c.last_routes-route-items.result.now in
    read_next test items c.loop-route.route-index (record { 0 = 0 }) c.loop-route-test.true
    (sym (c.contends_with.ensures ∙ ap (list_all (λ r. contend_over_own_in i (command (get_or items c.loop-route.route-index (record { 0 = 0 }))) (record { train = c.args.next.now.train; route = r }))) c.first_routes.ensures) ∙ c.if-not-contends_with.false)
    c.loop-route.invariant

pub returns : goal.returns
returns c =
    let i = c.args.interlocking.now in
    let command : RouteNo → Command = λ r. record { train = c.args.leg.now.train; route = r } in
    let test : RouteNo → Bool = λ r. contends_with_in i (command r) c.args.next.now.train (first_of_leg c.args.next.now) in
    all_end test c.last_routes-route-items.result.now c.loop-route.route-index c.loop-route-test.false c.loop-route.invariant
    ∙ ap (list_all test) c.last_routes-route-items.ensures
