use Rattle.std.proofs.Common.{◌≡◌, ◌++◌, drop, map}
use Rattle.rail_course.specs.Itineraries.{hold_in, route_holds_in}
use Rattle.rail_course.proofs.itineraries.Itineraries.push_holds.Given as goal

abbrev pub invariant-loop-part : goal.invariant-loop-part
invariant-loop-part l =
    l.holds.items ++ map (λ p. hold_in l.self (record { train = l.train_path.train; route = l.number }) p.section) (drop l.part-index l.part-items) ≡ l.fn.holds.items ++ route_holds_in l.self l.train_path.train l.number
