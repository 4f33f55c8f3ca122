use Rattle.std.proofs.Common.{◌/◌, arith}
use Rattle.rail_motion.proofs.Distances.{product_small}
use Rattle.free_moves.proofs.Gaining.{rise_found}
use Rattle.free_moves.proofs.gains.rise.Goals as goal

pub overflow_mul-twice-4 : goal.overflow_mul-twice-4
overflow_mul-twice-4 c =
    let small = product_small c.args.accel (c.saturating_sub.result / c.args.accel) c.args.speed (omega arith) c.requires.speed c.requires.accel in
    omega (arith, small)

pub overflow_sub-twice : goal.overflow_sub-twice
overflow_sub-twice c = omega (arith, rise_found c.args.accel c.args.speed c.args.limit c.saturating_sub.result c.requires.accel c.saturating_sub.ensures)

pub returns : goal.returns
returns c = omega (arith, rise_found c.args.accel c.args.speed c.args.limit c.saturating_sub.result c.requires.accel c.saturating_sub.ensures)
