use Rattle.rail_laws.proofs.MotionLaws.{keeps_limits_tells, keeps_limits_from}
use Rattle.rail_laws.proofs.laws.limits_are_those_of_points.Goals as goal

pub returns : goal.returns
returns c = λ ss top x y u fast. (keeps_limits_tells top ss x y u fast, keeps_limits_from top ss x y u)
