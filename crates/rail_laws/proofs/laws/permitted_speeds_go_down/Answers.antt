use Rattle.rail_laws.proofs.MotionLaws.{permitted_below}
use Rattle.rail_laws.proofs.laws.permitted_speeds_go_down.Goals as goal

pub returns : goal.returns
returns c = λ m ss end slows x v u w. permitted_below m ss end x v u w slows
