use Rattle.std.proofs.Common.{arith}
use Rattle.std.proofs.lemmas.Grind.{common_steps}
use Rattle.proof_log.proofs.Joining.{origin-parts}
use Rattle.proof_log.proofs.bound_text.put_origin.Goals as goal

pub returns-in_ok-put_trains-in-Cone : goal.returns-in_ok-put_trains-in-Cone
returns-in_ok-put_trains-in-Cone c = grind (arith, common_steps, origin-parts c.in-Cone.tick c.in-Cone.cone)
