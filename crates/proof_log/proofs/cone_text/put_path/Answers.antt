use Rattle.std.proofs.Common.{arith}
use Rattle.std.proofs.lemmas.Grind.{common_steps}
use Rattle.proof_log.specs.ConeText.{route_word}
use Rattle.proof_log.proofs.Joining.{spaced-list}
use Rattle.proof_log.proofs.cone_text.put_path.Goals as goal

pub returns : goal.returns
returns c = grind (arith, common_steps, spaced-list route_word c.args.path.now)
