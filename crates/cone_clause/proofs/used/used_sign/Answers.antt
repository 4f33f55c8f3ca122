use Rattle.std.proofs.Common.{map, sym, ap, ◌∙◌}
use Rattle.rail_base.specs.declared.route.Route.{Route}
use Rattle.rail_base.specs.Routes.{route_at}
use Rattle.cone_spec.specs.Clauses.{goes_further}
use Rattle.cone_clause.proofs.Signing.{closed_further, closed_only, not_closed}
use Rattle.cone_clause.proofs.used.used_sign.Goals.{else-closed-via-then-closed+else-goes_further, else-closed-via-else-closed}
use Rattle.cone_clause.proofs.used.used_sign.Goals as goal

pub returns-then-goes_further : goal.returns-then-goes_further
returns-then-goes_further c =
    closed_further _ _ _ (sym (c.has_mark.ensures ∙ c.requires.marks c.args.route) ∙ c.if-has_mark.false) c.if-closed.true
    (sym (c.goes_further.ensures ∙ ap (λ (r : Route). goes_further (map (route_at c.args.routes.now) c.args.path.now) r) c.route_at.ensures) ∙ c.if-goes_further.true)

pub returns : goal.returns
returns c =
    let unmarked = sym (c.has_mark.ensures ∙ c.requires.marks c.args.route) ∙ c.if-has_mark.false in
    elim c.else-closed.branch [
      | else-closed-via-then-closed+else-goes_further w ↦ closed_only _ _ _ unmarked (sym (w.goes_further.ensures ∙ ap (λ (r : Route). goes_further (map (route_at c.args.routes.now) c.args.path.now) r) w.route_at.ensures) ∙ w.if-goes_further.false)
      | else-closed-via-else-closed w ↦ not_closed _ _ _ unmarked w.if-closed.false
    ]
