use Rattle.rail_laws.proofs.Points.{permitted_tells, permitted_from}
use Rattle.rail_laws.proofs.laws.permitted_speeds_are_those_of_points.Goals as goal

pub returns : goal.returns
returns c = λ m ss end slows x v u. (permitted_tells m ss end x v u, permitted_from m ss end x v u slows)
