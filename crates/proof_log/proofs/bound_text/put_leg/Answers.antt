use Rattle.std.proofs.Common.{arith}
use Rattle.std.proofs.lemmas.Grind.{common_steps}
use Rattle.proof_log.proofs.Joining.{leg-parts}
use Rattle.proof_log.proofs.bound_text.put_leg.Goals as goal

pub returns : goal.returns
returns c = grind (arith, common_steps, leg-parts c.args.leg.now)
