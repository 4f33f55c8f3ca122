use Rattle.std.proofs.Common.{ap, arith, length}
use Rattle.number_sets.proofs.Words.{none_past}
use Rattle.number_sets.proofs.set.NumberSet.new.Goals as goal

pub returns : goal.returns
returns c = λ k. none_past _ k (let e = ap length c.new.ensures.items in omega arith)
