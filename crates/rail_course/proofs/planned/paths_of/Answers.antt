use Rattle.std.proofs.Common.{◌+◌, ◌≤◌, ◌<◌, length, ◌∙◌, arith}
use Rattle.rail_spec.specs.Plans.{path}
use Rattle.rail_course.proofs.Numbered.{paths_done, paths_step}
use Rattle.rail_course.proofs.Granting.{paths_are, plan_in_range}
use Rattle.rail_course.proofs.planned.paths_of.Goals as goal

pub loop-number-preserved : goal.loop-number-preserved
loop-number-preserved c =
    let n = c.loop-number.number in
    let many = length c.args.interlocking.now.design.station.trains in
    let test = c.loop-number-test.true in
    let less : n < many + 1 = omega arith in
    record {
      first = omega arith;
      left = paths_step (path c.args.plan.now.steps) c.loop-number.paths.items c.push.new.self.items n many _ _ less c.in_ok-push.ensures.items (c.from_vec.ensures ∙ c.in_ok-path.ensures) c.loop-number.invariant.left;
    }

pub returns : goal.returns
returns c =
    let i = c.args.interlocking.now in
    let plan = c.args.plan.now.steps in
    let many = length i.design.station.trains in
    let test = c.loop-number-test.false in
    let past : many + 1 ≤ c.loop-number.number = omega arith in
    paths_are i.design.station i.routes (path plan) (plan_in_range i plan c.requires) c.loop-number.paths.items (paths_done (path plan) c.loop-number.paths.items c.loop-number.number many _ past c.loop-number.invariant.left)
