use Rattle.std.proofs.Common.{arith, ◌+◌, ◌/◌, ◌≤◌, length}
use Rattle.number_sets.proofs.Words.{widened}
use Rattle.number_sets.proofs.set.widen.Goals as goal

pub returns-clause-same : goal.returns-clause-same
returns-clause-same c = let few : length c.args.words.now.items ≤ c.args.number / 64 + 1 = omega arith in widened c.args.words.now.items c.resize.new.self.items _ _ _ few c.resize.ensures.items
