use Rattle.std.proofs.Common.{◌≡◌, ◌++◌, drop, flat_map}
use Rattle.rail_outside.specs.Lines.{lines_of}
use Rattle.look_words.specs.Looks.{vehicle_looks}
use Rattle.look_words.proofs.looks.push_vehicles.Given as goal

-- with those that are left
abbrev pub invariant-loop-vehicle : goal.invariant-loop-vehicle
invariant-loop-vehicle l = lines_of l.lines.items ++ flat_map vehicle_looks (drop l.vehicle-index l.vehicles) ≡ lines_of l.initial.lines.items ++ flat_map vehicle_looks l.vehicles
