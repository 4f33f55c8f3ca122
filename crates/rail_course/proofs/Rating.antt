-- Rates per tick of what is admitted are in range.
use Rattle.std.proofs.Common.{ℕ, ◌*◌, ◌/◌, ◌≤◌, ◌<◌, arith, mul-le-mul, div-lt_iff_lt-mul}
use Rattle.rail_base.specs.declared.design.Design.{Design}
use Rattle.rail_base.specs.declared.station.TrainNo.{TrainNo}
use Rattle.rail_base.specs.Stations.{IsTrain, vehicle_of}
use Rattle.rail_base.specs.Admitted.{IsGoodVehicle}
use Rattle.rail_base.proofs.Admitting.{admitted}

-- a train has a good vehicle
pub vehicle_is_good : (d : Design) (t : TrainNo) → IsTrain d.station t → IsGoodVehicle d.station (vehicle_of d.station t)
vehicle_is_good d t h = let a = admitted d.station d.admitted in a.vehicle _ (a.train t h).vehicle

-- a speed in a tick stays in range
pub speed_small : (v t : ℕ) → v ≤ 100000 → t ≤ 1000 → v * t / 1000 ≤ 100000
speed_small v t h k =
    let product : v * t ≤ 100000 * 1000 = mul-le-mul h k in
    let less : v * t / 1000 < 100001 = (div-lt_iff_lt-mul {k = 1000} {x = v * t} {y = 100001} (omega arith)).1 (omega arith) in
    omega arith
