use Rattle.std.proofs.Common.{◌≡◌, ◌++◌, drop}
use Rattle.timing_refuter.specs.Prefixes.{prefixes_of}
use Rattle.timing_refuter.proofs.prefixes.prefixes_of.Given as goal

abbrev pub invariant-loop-train : goal.invariant-loop-train
invariant-loop-train l = l.prefixes.items ++ prefixes_of l.trains (drop l.train-index l.trains) ≡ prefixes_of l.trains l.trains
