use Rattle.std.proofs.Common.{map, take, sym, ap, ◌∙◌}
use Rattle.std.specs.List.{list_any}
use Rattle.rail_base.specs.declared.route.Route.{Route}
use Rattle.rail_base.specs.declared.route.RouteNo.{RouteNo}
use Rattle.rail_base.specs.Routes.{route_at}
use Rattle.rail_spec.specs.Plans.{is_start}
use Rattle.cone_form.proofs.Starts.{starts_stop, starts_next}
use Rattle.cone_form.proofs.walk.starts_differ.Goals as goal

none : RouteNo
none = record { 0 = 0 }

pub returns-then-starts_again : goal.returns-then-starts_again
unfolding none
returns-then-starts_again c = starts_stop (route_at c.args.routes.now) c.args.path.now c.loop-index.index none c.loop-index-test.true
    (sym (ap (λ (r : Route). list_any (λ (q : Route). is_start r.start q.start) (map (route_at c.args.routes.now) (take c.loop-index.index c.args.path.now))) c.route_at-route.ensures)
    ∙ (sym c.starts_again.ensures ∙ c.if-starts_again.true))

pub loop-index-preserved : goal.loop-index-preserved
unfolding none
loop-index-preserved c = starts_next (route_at c.args.routes.now) c.args.path.now c.loop-index.index none c.loop-index-test.true
    (sym (ap (λ (r : Route). list_any (λ (q : Route). is_start r.start q.start) (map (route_at c.args.routes.now) (take c.loop-index.index c.args.path.now))) c.route_at-route.ensures)
    ∙ (sym c.starts_again.ensures ∙ c.if-starts_again.false)) c.loop-index.invariant
