use Rattle.std.proofs.Common.{◌∙◌}
use Rattle.rail_course.specs.Itineraries.{going_in}
use Rattle.rail_course.proofs.Asking.{all_shared}
use Rattle.rail_course.proofs.train_paths.TrainPaths.push_waits.Goals as goal

pub returns : goal.returns
returns c =
    let given = c.args.self.now.given in
    let i = given.interlocking.now in
    all_shared i.design.station i.routes (going_in given) c.args.command c.args.other c.as_slice.result.now c.as_slice-2.result.now (c.as_slice.ensures.value ∙ c.in_ok-own.ensures) (c.as_slice-2.ensures.value ∙ c.in_ok-held.ensures)
    c.args.waits.now.items c.push_shared.new.waits.items c.push_shared-2.new.waits.items c.in_ok-push_shared.ensures c.in_ok-push_shared-2.ensures
