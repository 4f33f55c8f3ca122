use Rattle.std.proofs.Common.{arith}
use Rattle.std.proofs.lemmas.Grind.{common_steps}
use Rattle.proof_log.proofs.Joining.{among-parts}
use Rattle.proof_log.proofs.bound_text.put_place.Goals as goal

pub returns-in_ok-put_path-in-Among : goal.returns-in_ok-put_path-in-Among
returns-in_ok-put_path-in-Among c = grind (arith, common_steps, among-parts c.in-Among.routes c.in-Among.without)
