use Rattle.std.proofs.Common.{◌≡◌, ◌++◌, drop, map}
use Rattle.rail_course.specs.Itineraries.{release_in, route_releases_in}
use Rattle.rail_course.proofs.itineraries.Itineraries.push_releases.Given as goal

abbrev pub invariant-loop-part : goal.invariant-loop-part
invariant-loop-part l =
    l.releases.items ++ map (λ p. release_in l.self (record { train = l.train_path.train; route = l.number }) p.0) (drop l.part-index l.part-items) ≡ l.fn.releases.items ++ route_releases_in l.self l.train_path.train l.number
