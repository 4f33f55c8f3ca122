use Rattle.std.proofs.Common.{arith}
use Rattle.std.proofs.lemmas.Grind.{common_steps}
use Rattle.proof_log.proofs.Joining.{cone-parts}
use Rattle.proof_log.proofs.cone_text.put_cone.Goals as goal

pub returns : goal.returns
returns c = grind (arith, common_steps, cone-parts c.args.cone.now)
