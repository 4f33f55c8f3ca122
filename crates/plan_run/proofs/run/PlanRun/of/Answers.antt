use Rattle.std.proofs.Common.{ap, subst, ◌∙◌}
use Rattle.rail_base.specs.declared.plan.Plan.{Plan}
use Rattle.interlocking.specs.declared.railway.Interlocking.{Interlocking}
use Rattle.rail_spec.specs.Dispatches.{of_plan}
use Rattle.rail_spec.specs.Requirements.{path_violation}
use Rattle.dispatch_run.specs.FollowedTrains.{AreFollowedTrains}
use Rattle.plan_run.proofs.run.PlanRun.of.Goals as goal

pub invariant_of-result : goal.invariant_of-result
invariant_of-result c =
    let planned = c.in_ok-planned.planned in
    let told = c.in_ok-planned.ensures in
    let trains = c.in_ok-trains.trains.items in
    let there = planned.interlocking.now in
    record {
      formed = c.requires;
      is_missed = c.path_violation-missed.ensures
          ∙ ap (λ (p : Plan). path_violation there.design.station there.routes p.steps) told.plan
          ∙ ap (λ (i : Interlocking). path_violation i.design.station i.routes c.args.plan.now.steps) told.interlocking;
      followed = subst (λ (i : Interlocking). AreFollowedTrains i.design.station i.routes (of_plan i.routes c.args.plan.now.steps) trains) told.interlocking
          (subst (λ (p : Plan). AreFollowedTrains there.design.station there.routes (of_plan there.routes p.steps) trains) told.plan c.in_ok-trains.ensures);
    }
