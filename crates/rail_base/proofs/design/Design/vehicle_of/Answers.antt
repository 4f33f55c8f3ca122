-- A train of a design has a vehicle.
use Rattle.rail_base.proofs.Admitting.{admitted}
use Rattle.rail_base.proofs.design.Design.vehicle_of.Goals as goal

pub vehicle-requires : goal.vehicle-requires
vehicle-requires c = rw c.train.ensures ((admitted c.args.self.now.station c.args.self.now.admitted).train c.args.train c.requires).vehicle
