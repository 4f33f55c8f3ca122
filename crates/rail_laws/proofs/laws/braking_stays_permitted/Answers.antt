use Rattle.rail_laws.proofs.MotionLaws.{permitted_after}
use Rattle.rail_laws.proofs.laws.braking_stays_permitted.Goals as goal

pub returns : goal.returns
returns c = λ m ss end slows x v u. permitted_after m ss end x v u slows
