use Rattle.std.proofs.Common.{◌+◌, ◌≤◌, ◌<◌, length, arith}
use Rattle.rail_base.proofs.Admitting.{admitted}
use Rattle.rail_course.proofs.Numbered.{paths_done, paths_step}
use Rattle.rail_course.proofs.Granting.{paths_are}
use Rattle.cone_spec.specs.Cones.{free_path}
use Rattle.cone_run.proofs.Ranging.{cone_in_range}
use Rattle.cone_run.proofs.paths.free_paths.Goals as goal

pub loop-number-preserved : goal.loop-number-preserved
loop-number-preserved c =
    let n = c.loop-number.number in
    let many = length c.args.interlocking.now.design.station.trains in
    let test = c.loop-number-test.true in
    let less : n < many + 1 = omega arith in
    record {
      first = omega arith;
      left = paths_step (free_path c.args.cone.now) c.loop-number.paths.items c.push.new.self.items n many _ _ less c.in_ok-push.ensures.items c.in_ok-path.ensures c.loop-number.invariant.left;
    }

pub returns : goal.returns
returns c =
    let i = c.args.interlocking.now in
    let d = i.design.station in
    let cone = c.args.cone.now in
    let many = length d.trains in
    let test = c.loop-number-test.false in
    let past : many + 1 ≤ c.loop-number.number = omega arith in
    paths_are d i.routes (free_path cone) (cone_in_range d (admitted d i.design.admitted) i.routes i.table cone i.at_most_2000 c.requires) c.loop-number.paths.items
    (paths_done (free_path cone) c.loop-number.paths.items c.loop-number.number many _ past c.loop-number.invariant.left)
