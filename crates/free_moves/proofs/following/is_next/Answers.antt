use Rattle.std.proofs.Common.{sym, ap, ◌∙◌, true≢false}
use Rattle.rail_base.specs.declared.route.Route.{Route}
use Rattle.rail_base.specs.Routes.{route_at}
use Rattle.rail_base.proofs.Members.{false_unless}
use Rattle.rail_spec.specs.Plans.{goes_on}
use Rattle.free_moves.proofs.Further.{last_goes}
use Rattle.free_moves.proofs.following.is_next.Goals as goal

pub returns-in-Some : goal.returns-in-Some
returns-in-Some c = λ e. false_unless _ (λ t. true≢false (sym (ap (λ (r : Route). goes_on r.finish c.args.next.now.start) c.route_at.ensures ∙ last_goes (route_at c.args.routes.now) c.args.next.now c.args.walk.now c.in-Some.last.now c.in-Some.ensures.value t) ∙ (sym c.goes_on.ensures ∙ e)))
