use Rattle.std.proofs.Common.{sym, arith}
use Rattle.plan_names.proofs.Turns.{many_apart}
use Rattle.plan_names.proofs.numbers.are_same.Goals as goal

pub returns-then-one-other : goal.returns-then-one-other
returns-then-one-other c = sym (many_apart c.args.one.now c.args.other.now (λ e. let apart = c.if-one-other.true in grind (arith, apart, e)))
