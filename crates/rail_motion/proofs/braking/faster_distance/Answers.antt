use Rattle.std.proofs.Common.{arith}
use Rattle.rail_motion.proofs.Distances.{twice_faster, faster_small}
use Rattle.rail_motion.proofs.braking.faster_distance.Goals as goal

pub overflow_mul-twice-4 : goal.overflow_mul-twice-4
overflow_mul-twice-4 c =
    omega (arith, faster_small c.args.speed c.args.brake c.args.limit _ _ _ c.requires.brake c.requires.speed c.saturating_sub.ensures c.div_ceil-moves.ensures c.saturating_sub-2.ensures)

pub overflow_sub-twice : goal.overflow_sub-twice
overflow_sub-twice c =
    omega (arith, twice_faster c.args.speed c.args.brake c.args.limit _ _ _ c.requires.brake c.saturating_sub.ensures c.div_ceil-moves.ensures c.saturating_sub-2.ensures)

pub returns-clause-distance : goal.returns-clause-distance
returns-clause-distance c =
    omega (arith, twice_faster c.args.speed c.args.brake c.args.limit _ _ _ c.requires.brake c.saturating_sub.ensures c.div_ceil-moves.ensures c.saturating_sub-2.ensures)
