use Rattle.std.proofs.Common.{◌≡◌, ◌++◌, drop, flat_map}
use Rattle.rail_course.specs.Itineraries.{holds_in, route_holds_in}
use Rattle.rail_course.proofs.itineraries.Itineraries.holds_of_train.Given as goal

abbrev pub invariant-loop-number : goal.invariant-loop-number
invariant-loop-number l = l.holds.items ++ flat_map (route_holds_in l.self l.train_path.train) (drop l.number-index l.number-items) ≡ holds_in l.self l.train_path.train
