use Rattle.rail_base.specs.declared.route.Route.{Route}
use Rattle.rail_base.specs.Routes.{route_at}
use Rattle.rail_spec.specs.Plans.{goes_on}
use Rattle.cone_form.proofs.Walks.{mapped_end}
use Rattle.cone_form.proofs.walk.is_connected.Goals as goal

pub returns : goal.returns
returns c = mapped_end (λ (r q : Route). goes_on r.finish q.start) (route_at c.args.routes.now) c.args.path.now c.loop-index.index c.loop-index-test.false c.loop-index.invariant
