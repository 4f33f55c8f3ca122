use Rattle.std.proofs.Common.{◌≡◌, flat_map, take}
use Rattle.rail_alike.specs.Tests.{next_among, pair_with}
use Rattle.rail_alike.proofs.pairs.neighbors_among.Given as goal

-- the pairs of those so far
abbrev pub invariant-loop-train : goal.invariant-loop-train
invariant-loop-train l =
    l.pairs ≡ flat_map (λ t. pair_with t (next_among l.design.station l.trains t)) (take l.train-index l.trains)
