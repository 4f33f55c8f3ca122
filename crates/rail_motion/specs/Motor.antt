-- A motor as the definitions of motion have it.
use Rattle.std.specs.Prelude.{nat_abs}
use Rattle.rail_motion.specs.declared.Motor.{Motor}
use Rattle.rail_spec.specs.Motion.{MotorSeen}

-- its numbers per tick
abbrev pub rates_of : Motor → MotorSeen
rates_of m = record { accel = nat_abs m.accel; brake = nat_abs m.brake; top = nat_abs m.top; tail = nat_abs m.tail }
