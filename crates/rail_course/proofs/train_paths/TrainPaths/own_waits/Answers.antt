use Rattle.std.proofs.Common.{◌++◌, map, ap, ◌∙◌, refl}
use Rattle.rail_course.specs.Itineraries.{going_in}
use Rattle.rail_course.proofs.Asking.{own_are, wait_of_release}
use Rattle.rail_course.proofs.Parting.{grown}
use Rattle.rail_course.proofs.train_paths.TrainPaths.own_waits.Goals as goal

pub loop-release-init : goal.loop-release-init
loop-release-init c =
    let given = c.args.self.now.given in
    let i = given.interlocking.now in
    ap (λ ws. ws ++ map (wait_of_release c.args.command.train) c.deref-release-items.result.now) c.new-waits.ensures.items
    ∙ own_are i.design.station i.routes (going_in given) c.args.command c.deref-release-items.result.now (c.deref-release-items.ensures.value ∙ c.in_ok-releases.ensures)

pub loop-release-preserved : goal.loop-release-preserved
loop-release-preserved c =
    grown (wait_of_release c.args.command.train) c.loop-release.waits.items c.push.new.self.items _ c.deref-release-items.result.now c.loop-release.release-index _ _ c.loop-release-test.true c.in_ok-push.ensures.items refl c.loop-release.invariant
