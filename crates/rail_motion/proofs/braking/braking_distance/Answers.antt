use Rattle.std.proofs.Common.{◌/◌, arith}
use Rattle.rail_motion.proofs.Distances.{twice_distance, product_small}
use Rattle.rail_motion.proofs.braking.braking_distance.Goals as goal

pub overflow_mul-twice-4 : goal.overflow_mul-twice-4
overflow_mul-twice-4 c =
    let small = product_small c.args.brake (c.args.speed / c.args.brake) c.args.speed (omega arith) c.requires.speed c.requires.brake in
    omega (arith, small)

pub overflow_sub-twice : goal.overflow_sub-twice
overflow_sub-twice c = omega (arith, twice_distance c.args.speed c.args.brake c.requires.brake)

pub returns-clause-distance : goal.returns-clause-distance
returns-clause-distance c = omega (arith, twice_distance c.args.speed c.args.brake c.requires.brake)
