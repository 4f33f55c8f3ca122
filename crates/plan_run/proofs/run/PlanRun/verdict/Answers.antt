use Rattle.std.proofs.Common.{refl, sym, subst, ◌∙◌}
use Rattle.rail_base.proofs.Admitting.{admitted}
use Rattle.rail_spec.specs.Dispatches.{of_plan}
use Rattle.dispatch_run.specs.FollowedTrains.{AreFollowedTrains}
use Rattle.plan_run.proofs.Planning.{may_go}
use Rattle.plan_run.proofs.run.PlanRun.verdict.Goals as goal

pub verdict_by_events-requires : goal.verdict_by_events-requires
verdict_by_events-requires c =
    let self = c.args.self.now in
    let d = self.interlocking.now.design.station in
    let routes = self.interlocking.now.routes in
    let plan = self.plan.now.steps in (
      record {
        formed = self.formed;
        same = refl;
        is = record {
          goes = may_go d (admitted d self.interlocking.now.design.admitted) routes self.interlocking.now.table plan self.formed;
          followed_trains = subst (AreFollowedTrains d routes (of_plan routes plan)) (sym c.as_slice.ensures.value) self.followed;
        };
      },
      sym c.args.self.now.is_missed ∙ c.in_default.is,
    )
