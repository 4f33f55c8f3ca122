use Rattle.std.proofs.Common.{sym, ap, ◌∙◌, true≢false}
use Rattle.rail_base.specs.declared.route.Route.{Route}
use Rattle.rail_base.specs.declared.route.RouteNo.{RouteNo}
use Rattle.rail_base.specs.Routes.{route_at}
use Rattle.rail_base.proofs.Members.{false_unless}
use Rattle.rail_spec.specs.Plans.{goes_on}
use Rattle.cone_clause.proofs.Further.{last_goes}
use Rattle.cone_clause.proofs.onward.is_next.Goals as goal

none : RouteNo
none = record { 0 = 0 }

pub returns : goal.returns
unfolding none
returns c = λ e. false_unless _ (λ t. true≢false (sym (ap (λ (r : Route). goes_on r.finish c.args.route.now.start) c.route_at-last.ensures ∙ last_goes (route_at c.args.routes.now) c.args.route.now c.args.path.now none t) ∙ (sym c.goes_on.ensures ∙ e)))
