-- Arrays of commands.
use Rattle.rail_plan.proofs.Shapes.{no_step, step_is}

pub ruleset shapes = (step_is, no_step)
