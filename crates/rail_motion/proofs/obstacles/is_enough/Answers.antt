use Rattle.std.proofs.Common.{refl, leb-true}
use Rattle.rail_motion.proofs.Distances.{faster_at_most}
use Rattle.rail_motion.proofs.obstacles.is_enough.Goals as goal

pub returns : goal.returns
returns c = λ test. faster_at_most c.args.speed c.args.brake c.args.limit _ c.args.track c.requires.brake refl (leb-true _ _ test)
