use Rattle.std.proofs.Common.{◌++◌, ◌&&◌, if◌then◌else◌, Bool, true, false, Some, None, List, flat_map, get_or, map, ap, ap₂, ◌∙◌}
use Rattle.std.proofs.lemmas.List.{drop_more}
use Rattle.rail_base.specs.declared.plan.Command.{Command}
use Rattle.rail_base.specs.declared.route.RouteNo.{RouteNo}
use Rattle.rail_base.specs.Routes.{route_at}
use Rattle.rail_spec.specs.Plans.{routes_given}
use Rattle.cone_spec.specs.Clauses.{goes_further}
use Rattle.cone_spec.specs.Cones.{has_route}
use Rattle.cone_clause.specs.Contentions.{among}
use Rattle.cone_clause.specs.Numbered.{left_lit}
use Rattle.cone_clause.specs.Spoken.{commands, numbered, used}
use Rattle.cone_clause.proofs.Gathering.{mapped_next}
use Rattle.cone_clause.proofs.Routed.{given_among, given_route}
use Rattle.cone_clause.proofs.Signing.{used_signed}
use Rattle.cone_clause.proofs.numbered.NumberedCone.push_used_of.Goals as goal

none : RouteNo
none = record { 0 = 0 }

pub loop-route-init : goal.loop-route-init
loop-route-init c =
    let self = c.args.self.now in
    let command : RouteNo → Command = λ r. record { train = c.args.train; route = r } in
    ap (λ rs. c.args.clause.now.items ++ numbered self (flat_map (used self) (map command rs))) (c.routes_of-route-items.ensures.value ∙ ap (routes_given c.args.train) c.commands.ensures)

pub used_number-requires : goal.used_number-requires
unfolding none
used_number-requires c =
    let self = c.args.self.now in
    given_among (commands self) self.contention.interlocking.now.design.station self.contention.interlocking.now.routes self.contention.of_design c.args.train c.routes_of-route-items.result.now
    (c.routes_of-route-items.ensures.value ∙ ap (routes_given c.args.train) c.commands.ensures) c.loop-route.route-index none c.loop-route-test.true

pub used_sign-sign-requires-clause-route : goal.used_sign-sign-requires-clause-route
unfolding none
used_sign-sign-requires-clause-route c =
    let self = c.args.self.now in
    given_route (commands self) self.contention.interlocking.now.design.station self.contention.interlocking.now.routes self.contention.of_design c.args.train c.routes_of-route-items.result.now
    (c.routes_of-route-items.ensures.value ∙ ap (routes_given c.args.train) c.commands.ensures) c.loop-route.route-index none c.loop-route-test.true

pub loop-route-preserved : goal.loop-route-preserved
unfolding none
loop-route-preserved c =
    let self = c.args.self.now in
    let d = self.contention.interlocking.now.design.station in
    let routes = self.contention.interlocking.now.routes in
    let live : Command → Bool = among self.contention in
    let command : RouteNo → Command = λ r. record { train = c.args.train; route = r } in
    let items : List RouteNo = c.routes_of-route-items.result.now in
    let route : RouteNo = get_or items c.loop-route.route-index none in
    mapped_next (used self) (left_lit live d routes self.steps.count) c.loop-route.clause.items c.push_signed.new.clause.items _ _ _ (command route)
    (ap (map command) (drop_more items c.loop-route.route-index none c.loop-route-test.true))
    (c.in_ok-push_signed.ensures ∙ ap (λ ls. c.loop-route.clause.items ++ ls) (used_signed live d routes self.steps.count self.cone.now (command route) c.used_number.result c.used_sign-sign.result c.used_number.ensures
    (c.used_sign-sign.ensures ∙ ap₂ (λ (rs : List RouteNo) (b : Bool). if has_route rs route then Some true else if b && goes_further (map (route_at routes) rs) (route_at routes route) then Some false else None) c.path-path.ensures (c.is_closed-closed.ensures d routes))))
    c.loop-route.invariant
