use Rattle.std.proofs.Common.{◌≡◌, drop, map}
use Rattle.way_times.specs.Times.{least_of, lesser, ticks_alone}
use Rattle.way_times.proofs.least.least_on.Given as goal

abbrev pub invariant-loop-way : goal.invariant-loop-way
invariant-loop-way l =
    let i = l.interlocking in
    lesser l.least (least_of (map (λ way. ticks_alone i.design.station i.routes l.train way l.from l.to) (drop l.way-index l.ways)))
    ≡ least_of (map (λ way. ticks_alone i.design.station i.routes l.train way l.from l.to) l.ways)
