-- The rates of a train's vehicle are in range, since the design is admitted.
use Rattle.rail_course.proofs.Rating.{vehicle_is_good}
use Rattle.rail_course.proofs.motor.motor_of.Goals as goal

pub accel_per_tick-requires-clause-accel : goal.accel_per_tick-requires-clause-accel
accel_per_tick-requires-clause-accel c = rw c.vehicle_of-vehicle.ensures (vehicle_is_good c.args.design.now c.args.train c.requires).accel.1

pub accel_per_tick-requires-clause-gains : goal.accel_per_tick-requires-clause-gains
accel_per_tick-requires-clause-gains c = rw c.vehicle_of-vehicle.ensures (vehicle_is_good c.args.design.now c.args.train c.requires).gains

pub accel_per_tick-requires-2-clause-accel : goal.accel_per_tick-requires-2-clause-accel
accel_per_tick-requires-2-clause-accel c = rw c.vehicle_of-vehicle.ensures (vehicle_is_good c.args.design.now c.args.train c.requires).brake.1

pub accel_per_tick-requires-2-clause-gains : goal.accel_per_tick-requires-2-clause-gains
accel_per_tick-requires-2-clause-gains c = rw c.vehicle_of-vehicle.ensures (vehicle_is_good c.args.design.now c.args.train c.requires).slows

pub speed_per_tick-requires-clause-speed : goal.speed_per_tick-requires-clause-speed
speed_per_tick-requires-clause-speed c = rw c.vehicle_of-vehicle.ensures (vehicle_is_good c.args.design.now c.args.train c.requires).speed.1

pub speed_per_tick-requires-clause-moves : goal.speed_per_tick-requires-clause-moves
speed_per_tick-requires-clause-moves c = rw c.vehicle_of-vehicle.ensures (vehicle_is_good c.args.design.now c.args.train c.requires).moves
