use Rattle.std.proofs.Common.{ap, length, arith}
use Rattle.rail_course.proofs.itineraries.Itineraries.path.Goals as goal

pub bounds-as_slice-train : goal.bounds-as_slice-train
bounds-as_slice-train c =
    let many = c.args.self.now.path_a_train in
    let items = ap length c.as_slice.ensures.value in
    let low = c.requires.0 in
    let high = c.requires.1 in
    omega arith
