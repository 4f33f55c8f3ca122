use Rattle.std.proofs.Common.{rules, ◌-◌, ◌*◌, ◌≤◌}
use Rattle.std.proofs.lemmas.Nat.{mul-le}
use Rattle.train_ways.proofs.pairs.pair_of.Goals as goal

pub overflow_add-result : goal.overflow_add-result
overflow_add-result c =
    let m : (c.args.route.0 - 1) * c.args.width ≤ 4294967296 * 16 = mul-le (c.args.route.0 - 1) c.args.width 4294967296 16 (search rules) c.requires.width in
    search rules
