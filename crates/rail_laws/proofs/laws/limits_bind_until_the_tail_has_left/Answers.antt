use Rattle.std.proofs.Common.{◌+◌, max, arith}
use Rattle.rail_laws.proofs.laws.limits_bind_until_the_tail_has_left.Goals as goal

pub returns : goal.returns
returns c = λ ss top tail x y u some. (
  (λ keeps p q past near first back bound. keeps q (omega arith) (omega arith)),
  (λ keeps q past near. keeps (max q (x + 1)) q (omega arith) (omega arith) (omega arith) (omega arith) (omega arith)),
)
