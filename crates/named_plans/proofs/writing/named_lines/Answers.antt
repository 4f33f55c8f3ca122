use Rattle.std.proofs.Common.{All, List, sym, subst}
use Rattle.rail_base.specs.declared.plan.Command.{Command}
use Rattle.rail_plan.specs.Named.{HaveRoutes}
use Rattle.rail_plan.proofs.Named.{all_have_routes}
use Rattle.rail_spec.specs.Track.{routes_of}
use Rattle.named_plans.proofs.writing.named_lines.Goals as goal

pub put_steps-requires-clause-routes : goal.put_steps-requires-clause-routes
put_steps-requires-clause-routes c =
    let d = c.args.interlocking.now.design.station in
    subst (λ (ss : List (List Command)). All (HaveRoutes (routes_of d)) ss) (sym c.as_slice-steps.ensures) (all_have_routes d (routes_of d) c.args.plan.now.steps c.requires)
