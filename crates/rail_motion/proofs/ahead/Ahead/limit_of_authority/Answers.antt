use Rattle.std.proofs.Common.{◌≡◌, nat_abs, to_z, of_z, w64, arith}
use Rattle.std.proofs.lemmas.Int.{ints}
use Rattle.rail_motion.proofs.ahead.Ahead.limit_of_authority.Goals as goal

pub overflow_cast-result : goal.overflow_cast-result
overflow_cast-result c = let place = c.args.self.now.end_range c.in-Some.end c.in-Some.is in omega (arith, ints)

pub returns-in-Some-clause-below_2_47 : goal.returns-in-Some-clause-below_2_47
returns-in-Some-clause-below_2_47 c = λ x is.
    let place = c.args.self.now.end_range c.in-Some.end c.in-Some.is in
    let same : nat_abs (to_z w64 (of_z w64 c.in-Some.end)) ≡ x = cc is in
    omega (arith, ints)
