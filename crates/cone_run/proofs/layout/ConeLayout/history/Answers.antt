use Rattle.std.proofs.Common.{refl, sym, subst, arith}
use Rattle.rail_base.proofs.Admitting.{admitted}
use Rattle.cone_spec.specs.Cones.{of_cone}
use Rattle.dispatch_run.specs.FollowedTrains.{AreFollowedTrains}
use Rattle.cone_run.specs.declared.layout.ConeLayout.{ConeLayout}
use Rattle.cone_run.specs.Layouts.{AreJourneysOf}
use Rattle.cone_run.proofs.Riding.{last_within}
use Rattle.cone_run.proofs.Leading.{may_go}
use Rattle.cone_run.proofs.layout.ConeLayout.history.Goals as goal

pub history_of-requires : goal.history_of-requires
history_of-requires c =
    let i = c.args.self.now.interlocking.now in
    let d = i.design.station in
    let cone = c.args.self.now.cone.now in
    let known = c.args.self.now.known in
    let adm = admitted d i.design.admitted in
    let within = last_within d i.routes cone known in
    let most = adm.ticks.1 in
    let last = c.last_tick.ensures in (
      record {
        goes = may_go d i.routes cone known adm i.table;
        followed_trains = subst (AreFollowedTrains d i.routes (of_cone cone)) (sym c.as_slice.ensures.value) c.in_ok-followed_trains.ensures;
      },
      (refl, omega arith),
    )

pub followed_trains-requires : goal.followed_trains-requires
followed_trains-requires c = subst (λ (l : ConeLayout). AreJourneysOf l c.in_ok-journeys.journeys.items) c.in_ok-paths.ensures c.in_ok-journeys.ensures
