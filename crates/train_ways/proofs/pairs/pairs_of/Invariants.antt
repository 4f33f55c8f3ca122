use Rattle.std.proofs.Common.{◌≡◌, ◌++◌, drop, map}
use Rattle.train_ways.specs.Pairs.{pair_of}
use Rattle.train_ways.proofs.pairs.pairs_of.Given as goal

abbrev pub invariant-loop-route : goal.invariant-loop-route
invariant-loop-route l =
    l.pairs ++ map (λ q. pair_of l.width q l.made) (drop l.route-index l.routes) ≡ map (λ q. pair_of l.width q l.made) l.routes
