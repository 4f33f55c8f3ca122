use Rattle.std.proofs.Common.{◌≡◌, ◌++◌, drop, flat_map}
use Rattle.rail_course.specs.Itineraries.{releases_in, route_releases_in}
use Rattle.rail_course.proofs.itineraries.Itineraries.releases_of_train.Given as goal

abbrev pub invariant-loop-number : goal.invariant-loop-number
invariant-loop-number l = l.releases.items ++ flat_map (route_releases_in l.self l.train_path.train) (drop l.number-index l.number-items) ≡ releases_in l.self l.train_path.train
