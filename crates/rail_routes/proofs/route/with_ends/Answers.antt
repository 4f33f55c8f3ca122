use Rattle.std.proofs.Common.{arith}
use Rattle.rail_base.proofs.Contained.{in_at}
use Rattle.rail_routes.proofs.route.with_ends.Goals as goal

pub bounds-ends-section : goal.bounds-ends-section
bounds-ends-section c = c.requires.sections _ (in_at c.args.sections.now c.loop-section.section-index _ (omega arith))
